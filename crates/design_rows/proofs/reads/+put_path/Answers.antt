use Rattle.std.proofs.Common.{◌≡◌, ◌++◌, [], ap, sym, ◌∙◌, append-nil, arith}
use Rattle.std.proofs.lemmas.Option.{get_or_from_slice_get}
use Rattle.design_defs.specs.Names.{joined}
use Rattle.design_rows.specs.View.{name_at, path_at}
use Rattle.design_rows.proofs.Paths.{path_top, path_under}
use Rattle.design_rows.proofs.reads.+put_path.Goals as goal

pub returns-then-n-eq0 : goal.returns-then-n-eq0
returns-then-n-eq0 t c =
    sym (ap (λ path. c.args.out.now ++ path) (path_top c.args.rows.now c.requires.rows c.args.n c.if-n-eq0.true) ∙ append-nil c.args.out.now)

pub returns : goal.returns
returns t c =
    let r = c.args.rows.now in
    let out = c.args.out.now in
    let row = c.instance-instance.result in
    let put : c.put_under.new.out ≡ out ++ joined (path_at r row.parent) c.name.result.now =
    c.in_ok-put_under.ensures out (path_at r row.parent) c.in_ok-put_path.ensures (sym c.len-from.ensures) in
    let named : c.name.result.now ≡ name_at r row.name = sym (get_or_from_slice_get r.names row.name c.name.result.now [] c.name.ensures) in
    put ∙ ap (λ name. out ++ joined (path_at r row.parent) name) named ∙ ap (λ i. out ++ joined (path_at r i.parent) (name_at r i.name)) c.instance-instance.ensures
    ∙ ap (λ path. out ++ path) (sym (path_under r c.requires.rows c.args.n (omega arith)))
