use Rattle.std.proofs.Common.{ℕ, ◌-◌, sym, subst, arith}
use Rattle.module_rows.specs.Growth.{IsExpr}
use Rattle.module_rows.proofs.ExprLemmas.{last_added, some_added}
use Rattle.module_rows.proofs.terms.number.Goals as goal

pub overflow_sub-result : goal.overflow_sub-result
overflow_sub-result c = omega (arith, c.len.ensures, some_added c.args.terms.now c.put_expr.new.terms c.args.expr.now c.in_ok-put_expr.ensures.ok)

pub returns-clause-expr : goal.returns-clause-expr
returns-clause-expr c =
    let new = c.put_expr.new.terms in
    let P : ℕ → Type 0 = λ size. IsExpr new c.args.expr.now (size - 1) in
    let some = some_added c.args.terms.now new c.args.expr.now c.in_ok-put_expr.ensures.ok in
    subst P (sym c.len.ensures) (last_added c.args.terms.now new c.args.expr.now c.in_ok-put_expr.ensures.ok some)
