use Rattle.std.proofs.Common.{ℕ, List, subst}
use Rattle.std.specs.Prelude.{Option, Some}
use Rattle.module_rows.specs.Reads.{IsNumbered}
use Rattle.net_places.specs.Gathered.{Gathers}
use Rattle.net_places.specs.Mentions.{Mention}
use Rattle.net_places.proofs.Steps.{expr_connected}
use Rattle.net_places.proofs.lines.mention_conn.Goals as goal

pub returns-in_ok-mention_expr-in-Some : goal.returns-in_ok-mention_expr-in-Some
returns-in_ok-mention_expr-in-Some c conn is =
    let n = c.args.modules.now in
    let P : List Mention → Type 0 = λ more. Gathers n.symbols c.args.mark c.args.gathering.now c.mention_expr.new.gathering more in
    let numbered : IsNumbered n.exprs conn.expr (Some c.in-Some.expr) = subst (λ (o : Option ℕ). IsNumbered n.exprs conn.expr o) c.in-Some.is is in
    subst P (expr_connected n.exprs conn.expr c.in-Some.expr numbered) c.in_ok-mention_expr-in-Some.ensures
