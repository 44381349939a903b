use Rattle.std.proofs.Common.{◌≡◌, ◌++◌, ◌∷◌, [], ℕ, List, sym, ◌∙◌, subst}
use Rattle.std.proofs.lemmas.Option.{get_or_from_slice_get, slice_get_within}
use Rattle.module_rows.specs.declared.tables.PortRow.{PortRow}
use Rattle.module_rows.specs.declared.tables.Rows.{Rows}
use Rattle.module_rows.specs.Growth.{with_port}
use Rattle.module_rows.specs.View.{draft_of, name_at}
use Rattle.module_rows.proofs.Additions.{Are, on_err, port_pushed, terms_added}
use Rattle.module_rows.proofs.tables.Rows.add_port.Goals as goal

pub returns-in_err-name-clause-rows : goal.returns-in_err-name-clause-rows
returns-in_err-name-clause-rows c = (terms_added c.args.self.now c.symbol.new.terms c.requires c.symbol.ensures.grown.grown).rows

pub returns-in_err-name-clause-err : goal.returns-in_err-name-clause-err
returns-in_err-name-clause-err c =
    let r = c.args.self.now in
    let s : Rows = record r { terms = c.symbol.new.terms } in
    on_err c.from_residual.result (draft_of s ≡ draft_of r) (terms_added r c.symbol.new.terms c.requires c.symbol.ensures.grown.grown).draft

unchanged : (c : goal.After-from_residual-in_err-push) → Are (record c.args.self.now { terms = c.symbol.new.terms; ports = c.push.new.self }) (draft_of c.args.self.now)
unchanged c =
    let r = c.args.self.now in
    let P : List PortRow → Type 0 = λ xs. Are (record r { terms = c.symbol.new.terms; ports = xs }) (draft_of r) in
    subst P (sym c.in_err-push.ensures.err) (terms_added r c.symbol.new.terms c.requires c.symbol.ensures.grown.grown)

pub returns-in_err-push-clause-rows : goal.returns-in_err-push-clause-rows
returns-in_err-push-clause-rows c = (unchanged c).rows

pub returns-in_err-push-clause-err : goal.returns-in_err-push-clause-err
returns-in_err-push-clause-err c =
    let r = c.args.self.now in
    let s : Rows = record r { terms = c.symbol.new.terms; ports = c.push.new.self } in
    on_err c.from_residual-in_err-push.result (draft_of s ≡ draft_of r) (unchanged c).draft

added : (c : goal.In_ok-push) → Are (record c.args.self.now { terms = c.symbol.new.terms; ports = c.push.new.self }) (with_port (draft_of c.args.self.now) c.args.port.now)
added c =
    let r = c.args.self.now in
    let terms = c.symbol.new.terms in
    let mid : Rows = record r { terms = terms } in
    let row : PortRow = record { name = c.in_ok-name.name; dir = c.args.port.now.dir; range = c.args.port.now.range } in
    let there = slice_get_within terms.symbols row.name c.as_slice.result.now c.in_ok-name.ensures.named in
    let are = port_pushed mid (draft_of r) row (terms_added r terms c.requires c.symbol.ensures.grown.grown) there in
    let named : name_at terms.symbols row.name ≡ c.args.port.now.name =
    get_or_from_slice_get terms.symbols row.name c.as_slice.result.now [] c.in_ok-name.ensures.named ∙ c.as_slice.ensures.bytes in
    let P : List PortRow → Type 0 = λ xs. Are (record r { terms = terms; ports = xs }) (with_port (draft_of r) c.args.port.now) in
    let Q : List ℕ → Type 0 = λ name. Are (record mid { ports = r.ports ++ row ∷ [] }) (with_port (draft_of r) (record c.args.port.now { name = name })) in
    subst P (sym c.in_ok-push.ensures.ok) (subst Q named are)

pub returns-clause-rows : goal.returns-clause-rows
returns-clause-rows c = (added c).rows

pub returns-clause-ok : goal.returns-clause-ok
returns-clause-ok c = (added c).draft
