use Rattle.std.proofs.Common.{sym, subst}
use Rattle.module_rows.specs.Leaves.{own_leaf}
use Rattle.module_rows.specs.Reads.{numbered_expr}
use Rattle.net_runs.specs.Leaves.{StandsIn}
use Rattle.net_widths.specs.Sides.{IsLeafWidth}
use Rattle.net_widths.proofs.SideLemmas.{adds_leaf}
use Rattle.net_widths.proofs.sides.add_leaf.Goals as goal

pub returns : goal.returns
returns c = λ s m opened stands.
    let n = c.args.modules.now in
    let e = numbered_expr n c.args.leaf in
    let same = c.requires.netlist in
    let width =
    subst (λ o. IsLeafWidth m (own_leaf (numbered_expr o c.args.leaf)) c.leaf_width-width.result) same
    (c.leaf_width-width.ensures s m opened (subst (λ o. StandsIn o m c.args.leaf) (sym same) stands)) in
    adds_leaf n.symbols m c.args.line c.args.side _ (own_leaf e) c.name_of-name.result c.leaf_width-width.result width (c.name_of-name.ensures n e c.expr.ensures) c.refuse_unless.ensures
    c.in_ok-sum_of.ensures
