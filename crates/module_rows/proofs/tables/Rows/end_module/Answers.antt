use Rattle.std.proofs.Common.{◌≡◌, ◌++◌, ◌∷◌, [], ℕ, List, sym, subst}
use Rattle.std.proofs.lemmas.Option.{get_or_from_slice_get, slice_get_within}
use Rattle.module_rows.specs.declared.tables.Marks.{Marks}
use Rattle.module_rows.specs.declared.tables.ModuleRow.{ModuleRow}
use Rattle.module_rows.specs.declared.tables.Rows.{Rows}
use Rattle.module_rows.specs.Growth.{with_module}
use Rattle.module_rows.specs.View.{draft_of, marks_of, name_at}
use Rattle.module_rows.proofs.Additions.{Are, module_ended, on_err, terms_added}
use Rattle.module_rows.proofs.tables.Rows.end_module.Goals as goal

pub returns-in_err-name-clause-rows : goal.returns-in_err-name-clause-rows
returns-in_err-name-clause-rows c = (terms_added c.args.self.now c.symbol.new.terms c.requires c.symbol.ensures.grown.grown).rows

pub returns-in_err-name-clause-err : goal.returns-in_err-name-clause-err
returns-in_err-name-clause-err c =
    let r = c.args.self.now in
    let s : Rows = record r { terms = c.symbol.new.terms } in
    on_err c.from_residual.result (draft_of s ≡ draft_of r) (terms_added r c.symbol.new.terms c.requires c.symbol.ensures.grown.grown).draft

unchanged : (c : goal.After-from_residual-in_err-push) → Are (record c.args.self.now { terms = c.symbol.new.terms; modules = c.push.new.self }) (draft_of c.args.self.now)
unchanged c =
    let r = c.args.self.now in
    let P : List ModuleRow → Type 0 = λ xs. Are (record r { terms = c.symbol.new.terms; modules = xs }) (draft_of r) in
    subst P (sym c.in_err-push.ensures.err) (terms_added r c.symbol.new.terms c.requires c.symbol.ensures.grown.grown)

pub returns-in_err-push-clause-rows : goal.returns-in_err-push-clause-rows
returns-in_err-push-clause-rows c = (unchanged c).rows

pub returns-in_err-push-clause-err : goal.returns-in_err-push-clause-err
returns-in_err-push-clause-err c =
    let r = c.args.self.now in
    let s : Rows = record r { terms = c.symbol.new.terms; modules = c.push.new.self } in
    on_err c.from_residual-in_err-push.result (draft_of s ≡ draft_of r) (unchanged c).draft

ended : (c : goal.After-end-1)
    → Are (record c.args.self.now { terms = c.symbol.new.terms; modules = c.push.new.self; current = c.marks-end.result })
    (with_module (draft_of c.args.self.now) c.args.name.now c.args.line)
ended c =
    let r = c.args.self.now in
    let terms = c.symbol.new.terms in
    let mid : Rows = record r { terms = terms } in
    let name = c.in_ok-name.name in
    let there = slice_get_within terms.symbols name c.args.name.now c.in_ok-name.ensures.named in
    let are = module_ended mid (draft_of r) (terms_added r terms c.requires c.symbol.ensures.grown.grown) name c.args.line there in
    let named : name_at terms.symbols name ≡ c.args.name.now = get_or_from_slice_get terms.symbols name c.args.name.now [] c.in_ok-name.ensures.named in
    let row : Marks → ModuleRow = λ end. record { name = name; line = c.args.line; first = r.current; end = end } in
    let P : List ModuleRow → Type 0 = λ xs.
    Are (record r { terms = terms; modules = xs; current = c.marks-end.result }) (with_module (draft_of r) c.args.name.now c.args.line) in
    let Q : List ℕ → Type 0 = λ spelling.
    Are (record mid { modules = r.modules ++ row (marks_of mid) ∷ []; current = marks_of mid }) (with_module (draft_of r) spelling c.args.line) in
    let R : Marks → Type 0 = λ end.
    Are (record mid { modules = r.modules ++ row end ∷ []; current = end }) (with_module (draft_of r) c.args.name.now c.args.line) in
    subst P (sym c.in_ok-push.ensures.ok) (subst R (sym c.marks-end.ensures) (subst Q named are))

pub returns-clause-rows : goal.returns-clause-rows
returns-clause-rows c = (ended c).rows

pub returns-clause-ok : goal.returns-clause-ok
returns-clause-ok c = (ended c).draft
