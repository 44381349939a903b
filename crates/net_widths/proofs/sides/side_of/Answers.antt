use Rattle.std.proofs.Common.{ℕ, ◌<◌, ◌≤◌, ◌≡◌, Some, length, ◌∙◌, subst, arith}
use Rattle.std.specs.List.{flat_map, slice_range}
use Rattle.module_rows.specs.Leaves.{leaves, own_leaf}
use Rattle.module_rows.specs.Reads.{numbered_expr}
use Rattle.net_runs.specs.Leaves.{StandsIn}
use Rattle.net_widths.specs.declared.sides.Side.{Side}
use Rattle.net_widths.specs.Sides.{AddsLeaves}
use Rattle.net_widths.proofs.SideLemmas.{adds_also, adds_none, leaf_more, no_leaves, side_of_leaves}
use Rattle.net_widths.proofs.sides.side_of.Goals as goal

pub loop-leaf-init : goal.loop-leaf-init
loop-leaf-init c = λ s m opened there.
    let start : Side = record { best = c.args.best; width = Some 0 } in
    adds_none c.args.modules.now.symbols m c.args.line start _ (no_leaves c.args.modules.now c.first_leaf-leaf.result)

pub loop-leaf-preserved : goal.loop-leaf-preserved
loop-leaf-preserved c = λ s m opened there.
    let n = c.args.modules.now in
    let first = c.first_leaf-leaf.result in
    let i = c.loop-leaf.leaf in
    let start : Side = record { best = c.args.best; width = Some 0 } in
    let rises : first ≤ i = omega (arith, c.first_leaf-leaf.ensures.rises) in
    let within : i < length n.exprs = omega (arith, c.requires.expr) in
    let stands : StandsIn n m i = record { all = c.args.expr; first = first; in_lines = there; leaves = c.first_leaf-leaf.ensures; behind = rises; before = omega arith } in
    adds_also n.symbols m c.args.line start c.loop-leaf.side c.in_ok-side.side (flat_map own_leaf (slice_range n.exprs first i)) (own_leaf (numbered_expr n i)) _
    (c.loop-leaf.invariant s m opened there) (c.in_ok-side.ensures s m opened stands) (leaf_more n first i rises within)

pub returns : goal.returns
returns c = λ s m opened there.
    let n = c.args.modules.now in
    let first = c.first_leaf-leaf.result in
    let last = c.args.expr in
    let e = numbered_expr n last in
    let start : Side = record { best = c.args.best; width = Some 0 } in
    let rises : first ≤ last = c.first_leaf-leaf.ensures.rises in
    let end : c.loop-leaf.leaf ≡ last = omega (arith, rises) in
    let known =
    subst (λ (k : ℕ). AddsLeaves n.symbols m c.args.line start c.loop-leaf.side (flat_map own_leaf (slice_range n.exprs first k))) end (c.loop-leaf.invariant s m opened there) in
    let before : last ≤ last = omega arith in
    let stands : StandsIn n m last = record { all = last; first = first; in_lines = there; leaves = c.first_leaf-leaf.ensures; behind = rises; before = before } in
    side_of_leaves n.symbols m c.args.line c.args.best c.in_ok-whole.whole e
    (adds_also n.symbols m c.args.line start c.loop-leaf.side c.in_ok-whole.whole (flat_map own_leaf (slice_range n.exprs first last)) (own_leaf e) (leaves e) known
    (c.in_ok-whole.ensures s m opened stands) (c.first_leaf-leaf.ensures.same ∙ leaf_more n first last rises c.requires.expr))
