use Rattle.std.proofs.Common.{ℕ, sym, subst}
use Rattle.std.specs.Prelude.{Some}
use Rattle.pw_defs.specs.declared.netlist.Expr.TheVariants.{Whole as WholeExpr}
use Rattle.module_rows.specs.View.{name_at}
use Rattle.net_runs.specs.declared.runs.Run.TheVariants.{Bits}
use Rattle.net_runs.specs.Leaves.{IsRun}
use Rattle.net_runs.proofs.RunLemmas.{whole_known, whole_unknown}
use Rattle.net_runs.proofs.lookups.Lookup.whole.Goals as goal

pub returns-in_err-row : goal.returns-in_err-row
returns-in_err-row c s m is in_use =
    let o = c.args.self.now in
    let name = name_at o.netlist.symbols c.args.symbol in
    subst (IsRun s o.holder m (WholeExpr name)) (sym c.from_residual.ensures) (whole_unknown s o.holder m is.is_module name (c.in_err-row.ensures s m is) in_use)

pub returns : goal.returns
returns c s m is in_use =
    let o = c.args.self.now in
    let name = name_at o.netlist.symbols c.args.symbol in
    let row = c.in_ok-row.row in
    subst (λ (n : ℕ). IsRun s o.holder m (WholeExpr name) (Some (Bits row.first n))) (sym c.width.ensures)
    (whole_known s o.holder m is.is_module name row (c.in_ok-row.ensures s m is))
