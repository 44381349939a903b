use Rattle.std.proofs.Common.{ℕ, sym, subst}
use Rattle.std.specs.Prelude.{Option, Some}
use Rattle.pw_defs.specs.declared.netlist.Expr.{Expr}
use Rattle.module_rows.specs.Growth.{IsConnected}
use Rattle.module_rows.proofs.ExprLemmas.{connected_added}
use Rattle.module_rows.proofs.terms.connected.Goals as goal

pub returns-in_ok-put_expr-in-Some-clause-expr : goal.returns-in_ok-put_expr-in-Some-clause-expr
returns-in_ok-put_expr-in-Some-clause-expr c =
    let new = c.put_expr.new.terms in
    let expr = c.in-Some.expr in
    let P : ℕ → Type 0 = λ n. IsConnected new (Some expr) n in
    let Q : Option Expr → Type 0 = λ o. IsConnected new o c.len.result in
    subst Q (sym c.in-Some.is) (subst P (sym c.len.ensures) (connected_added c.args.terms.now new expr c.in_ok-put_expr-in-Some.ensures.ok))
