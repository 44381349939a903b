use Rattle.std.proofs.Common.{Some, sym, subst}
use Rattle.module_rows.specs.Leaves.{own_leaf}
use Rattle.module_rows.specs.Reads.{numbered_expr}
use Rattle.net_runs.specs.Leaves.{IsLeafRun}
use Rattle.net_widths.specs.Sides.{IsLeafWidth}
use Rattle.net_widths.proofs.SideLemmas.{no_run_width, run_width}
use Rattle.net_widths.proofs.sides.leaf_width.Goals as goal

pub returns-in-Some : goal.returns-in-Some
returns-in-Some c = λ s m opened stands.
    let e = numbered_expr c.args.lookup.now.netlist c.args.leaf in
    let run = subst (IsLeafRun s c.args.lookup.now.holder m e) c.in-Some.is (c.leaf.ensures s m opened stands) in
    let known = run_width s c.args.lookup.now.holder m e c.in-Some.run' run in
    subst (λ count. IsLeafWidth m (own_leaf e) (Some count)) (sym c.count.ensures) known

pub returns-in-None : goal.returns-in-None
returns-in-None c = λ s m opened stands.
    let e = numbered_expr c.args.lookup.now.netlist c.args.leaf in
    no_run_width s c.args.lookup.now.holder m e (subst (IsLeafRun s c.args.lookup.now.holder m e) c.in-None.is (c.leaf.ensures s m opened stands))
