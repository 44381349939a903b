use Rattle.std.proofs.Common.{◌≡◌, ◌<◌, ◌++◌, ◌∷◌, [], List, length, sym, ◌∙◌, subst, arith}
use Rattle.pw_defs.specs.declared.netlist.Expr.{Expr}
use Rattle.module_rows.specs.declared.tables.AssignRow.{AssignRow}
use Rattle.module_rows.specs.declared.tables.Rows.{Rows}
use Rattle.module_rows.specs.Growth.{with_assign}
use Rattle.module_rows.specs.View.{draft_of, expr_at}
use Rattle.module_rows.proofs.Additions.{Are, assign_pushed, on_err, terms_added}
use Rattle.module_rows.proofs.ExprLemmas.{grows_trans}
use Rattle.module_rows.proofs.TermLemmas.{expr_kept, extends_length}
use Rattle.module_rows.proofs.tables.Rows.add_assign.Goals as goal

pub returns-in_err-left-clause-rows : goal.returns-in_err-left-clause-rows
returns-in_err-left-clause-rows c = (terms_added c.args.self.now c.number.new.terms c.requires c.number.ensures.grown).rows

pub returns-in_err-left-clause-err : goal.returns-in_err-left-clause-err
returns-in_err-left-clause-err c =
    let r = c.args.self.now in
    let s : Rows = record r { terms = c.number.new.terms } in
    on_err c.from_residual.result (draft_of s ≡ draft_of r) (terms_added r c.number.new.terms c.requires c.number.ensures.grown).draft

pub returns-in_err-right-clause-rows : goal.returns-in_err-right-clause-rows
returns-in_err-right-clause-rows c =
    let r = c.args.self.now in
    let grown = grows_trans r.terms c.number.new.terms c.number-2.new.terms c.number.ensures.grown c.number-2.ensures.grown in
    (terms_added r c.number-2.new.terms c.requires grown).rows

pub returns-in_err-right-clause-err : goal.returns-in_err-right-clause-err
returns-in_err-right-clause-err c =
    let r = c.args.self.now in
    let grown = grows_trans r.terms c.number.new.terms c.number-2.new.terms c.number.ensures.grown c.number-2.ensures.grown in
    let s : Rows = record r { terms = c.number-2.new.terms } in
    on_err c.from_residual-in_err-right.result (draft_of s ≡ draft_of r) (terms_added r c.number-2.new.terms c.requires grown).draft

unchanged : (c : goal.After-from_residual-in_err-push) → Are (record c.args.self.now { terms = c.number-2.new.terms; assigns = c.push.new.self }) (draft_of c.args.self.now)
unchanged c =
    let r = c.args.self.now in
    let grown = grows_trans r.terms c.number.new.terms c.number-2.new.terms c.number.ensures.grown c.number-2.ensures.grown in
    let P : List AssignRow → Type 0 = λ xs. Are (record r { terms = c.number-2.new.terms; assigns = xs }) (draft_of r) in
    subst P (sym c.in_err-push.ensures.err) (terms_added r c.number-2.new.terms c.requires grown)

pub returns-in_err-push-clause-rows : goal.returns-in_err-push-clause-rows
returns-in_err-push-clause-rows c = (unchanged c).rows

pub returns-in_err-push-clause-err : goal.returns-in_err-push-clause-err
returns-in_err-push-clause-err c =
    let r = c.args.self.now in
    let s : Rows = record r { terms = c.number-2.new.terms; assigns = c.push.new.self } in
    on_err c.from_residual-in_err-push.result (draft_of s ≡ draft_of r) (unchanged c).draft

added : (c : goal.In_ok-push)
    → Are (record c.args.self.now { terms = c.number-2.new.terms; assigns = c.push.new.self }) (with_assign (draft_of c.args.self.now) c.args.assign.now)
added c =
    let r = c.args.self.now in
    let first = c.number.new.terms in
    let terms = c.number-2.new.terms in
    let grows = c.number-2.ensures.grown in
    let grown = grows_trans r.terms first terms c.number.ensures.grown grows in
    let mid : Rows = record r { terms = terms } in
    let assign = c.args.assign.now in
    let row : AssignRow = record { left = c.in_ok-left.left; right = c.in_ok-right.right; line = assign.line } in
    let there : row.left < length terms.exprs = omega (arith, c.in_ok-left.ensures.expr.there, extends_length first.exprs terms.exprs grows.exprs) in
    let are = assign_pushed mid (draft_of r) row (terms_added r terms c.requires grown) (record { left = there; right = c.in_ok-right.ensures.expr.there }) in
    let left : expr_at terms row.left ≡ assign.left =
    expr_kept first terms grows.symbols grows.exprs c.number.ensures.grown.sound.rows row.left c.in_ok-left.ensures.expr.there ∙ c.in_ok-left.ensures.expr.same in
    let P : List AssignRow → Type 0 = λ xs. Are (record r { terms = terms; assigns = xs }) (with_assign (draft_of r) assign) in
    let Q : Expr → Type 0 = λ e. Are (record mid { assigns = r.assigns ++ row ∷ [] }) (with_assign (draft_of r) (record assign { left = e; right = expr_at terms row.right })) in
    let R : Expr → Type 0 = λ e. Are (record mid { assigns = r.assigns ++ row ∷ [] }) (with_assign (draft_of r) (record assign { right = e })) in
    subst P (sym c.in_ok-push.ensures.ok) (subst R c.in_ok-right.ensures.expr.same (subst Q left are))

pub returns-clause-rows : goal.returns-clause-rows
returns-clause-rows c = (added c).rows

pub returns-clause-ok : goal.returns-clause-ok
returns-clause-ok c = (added c).draft
