use Rattle.std.proofs.Common.{◌≡◌, ◌++◌, [], ap, sym, ◌∙◌}
use Rattle.std.proofs.lemmas.Option.{get_or_from_slice_get}
use Rattle.design_defs.specs.Names.{joined}
use Rattle.design_rows.specs.View.{name_at, path_at, place_name, place_of_bit}
use Rattle.design_rows.proofs.reads.put_bit_name.Goals as goal

pub returns : goal.returns
returns c =
    let r = c.args.rows.now in
    let out = c.args.out.now in
    let owner = c.owner.result in
    let put : c.put_under.new.out ≡ out ++ joined (path_at r owner) c.name.result.now =
    c.in_ok-put_under.ensures out (path_at r owner) c.in_ok-put_path.ensures (sym c.len-from.ensures) in
    let named : c.name.result.now ≡ name_at r c.name_of.result = sym (get_or_from_slice_get r.names c.name_of.result c.name.result.now [] c.name.ensures) in
    let which = c.name_of.ensures ∙ ap place_name c.place-place.ensures.place in
    put ∙ ap (λ name. out ++ joined (path_at r owner) name) (named ∙ ap (name_at r) which)
    ∙ ap (λ o. out ++ joined (path_at r o) (name_at r (place_name (place_of_bit r c.args.n)))) c.owner.ensures.owner
