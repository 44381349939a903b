use Rattle.std.proofs.Common.{ℕ, ◌+◌, ◌<◌, ◌≤◌, ◌≡◌, List, length, sym, ap, ◌∙◌, subst, arith}
use Rattle.std.specs.List.{flat_map, slice_range}
use Rattle.module_rows.specs.Reads.{numbered_expr}
use Rattle.net_places.specs.Gathered.{Gathers}
use Rattle.net_places.specs.Mentions.{Mention, of_expr, of_leaf}
use Rattle.net_places.proofs.Mentioning.{gathers_also, gathers_none}
use Rattle.net_places.proofs.Steps.{all_leaves, empty_part, leaves_more}
use Rattle.net_places.proofs.lines.mention_expr.Goals as goal

pub loop-leaf-init : goal.loop-leaf-init
loop-leaf-init c =
    let n = c.args.modules.now in
    let first = c.first_leaf-leaf.result in
    let P : List Mention → Type 0 = λ some. Gathers n.symbols c.args.mark c.args.gathering.now c.args.gathering.now some in
    subst P (sym (ap (flat_map of_leaf) (empty_part n.exprs first))) (gathers_none n.symbols c.args.mark c.args.gathering.now)

pub loop-leaf-preserved : goal.loop-leaf-preserved
loop-leaf-preserved c =
    let n = c.args.modules.now in
    let first = c.first_leaf-leaf.result in
    let i = c.loop-leaf.leaf in
    let rises : first ≤ i = omega (arith, c.first_leaf-leaf.ensures.rises) in
    let within : i < length n.exprs = omega (arith, c.requires) in
    gathers_also n.symbols c.args.mark c.args.gathering.now c.loop-leaf.gathering c.mention_leaf.new.gathering (flat_map of_leaf (slice_range n.exprs first i)) (of_leaf (numbered_expr n i))
    (flat_map of_leaf (slice_range n.exprs first (i + 1))) c.loop-leaf.invariant c.in_ok-mention_leaf.ensures (leaves_more n first i rises within)

pub returns : goal.returns
returns c =
    let n = c.args.modules.now in
    let first = c.first_leaf-leaf.result in
    let last = c.args.expr in
    let i = c.loop-leaf.leaf in
    let end : i ≡ last = omega (arith, c.first_leaf-leaf.ensures.rises) in
    let rises : first ≤ last = c.first_leaf-leaf.ensures.rises in
    let front = subst (λ (k : ℕ). Gathers n.symbols c.args.mark c.args.gathering.now c.loop-leaf.gathering (flat_map of_leaf (slice_range n.exprs first k))) end c.loop-leaf.invariant in
    gathers_also n.symbols c.args.mark c.args.gathering.now c.loop-leaf.gathering c.mention_leaf-2.new.gathering (flat_map of_leaf (slice_range n.exprs first last)) (of_leaf (numbered_expr n last))
    (of_expr (numbered_expr n last)) front c.in_ok-mention_leaf-2.ensures (sym (all_leaves n last first c.first_leaf-leaf.ensures) ∙ leaves_more n first last rises c.requires)
