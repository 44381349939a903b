use Rattle.std.proofs.Common.{◌≡◌, ◌-◌, ◌<◌, ◌≤◌, ℕ, List, get_or, length, map, sym, ◌∙◌, subst, arith}
use Rattle.std.specs.declared.cmp.Ordering.TheVariants.{Less}
use Rattle.std.proofs.lemmas.List.{take_all}
use Rattle.list_defs.specs.Orders.{IsRising}
use Rattle.design_defs.specs.Hierarchy.{way_cmp}
use Rattle.design_defs.proofs.BitOrders.{way_total}
use Rattle.net_instances.specs.Ways.{way_in}
use Rattle.net_instances.proofs.DownLemmas.{way_is_down}
use Rattle.net_instances.proofs.RowsInOrder.{rising_start, rising_step}
use Rattle.net_instances.proofs.order.is_rising.Goals as goal

pub loop-at-init : goal.loop-at-init
loop-at-init c within named = rising_start way_cmp (way_in c.args.modules.now.symbols c.args.rows.now) c.args.order.now

pub loop-at-preserved : goal.loop-at-preserved
loop-at-preserved c within named =
    let symbols = c.args.modules.now.symbols in
    let rows = c.args.rows.now in
    let order = c.args.order.now in
    let at : ℕ = c.loop-at.at in
    let way = way_in symbols rows in
    let a : ℕ = get_or order (at - 1) 0 in
    let b : ℕ = get_or order at 0 in
    let above : 1 ≤ at = c.loop-at.auto.at in
    let short : at < length order = c.loop-at-test.true in
    let less : way_cmp (way a) (way b) ≡ Less =
    sym (c.compare.ensures (way a) (way b) (way_is_down symbols rows a a (omega arith)) (way_is_down symbols rows b b (omega arith))
    (named a (within (at - 1) 0 (omega (arith, above, short)))) (named b (within at 0 short))) ∙ c.in-Less.is in
    rising_step way_cmp way_total way order at above short less (c.loop-at.invariant within named)

pub returns : goal.returns
returns c _ within named =
    subst (λ (os : List ℕ). IsRising way_cmp (map (way_in c.args.modules.now.symbols c.args.rows.now) os)) (take_all c.loop-at.at c.args.order.now c.loop-at-test.false)
    (c.loop-at.invariant within named)
