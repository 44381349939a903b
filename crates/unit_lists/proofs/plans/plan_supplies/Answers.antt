use Rattle.std.proofs.Common.{arith}
use Rattle.unit_lists.specs.Plans.{Always, IsSupplyPlanned}
use Rattle.unit_lists.proofs.GatherLemmas.{all_gathered, one_more_at, supply_stays}
use Rattle.unit_lists.proofs.plans.plan_supplies.Goals as goal

pub loop-number-preserved : goal.loop-number-preserved
loop-number-preserved c =
    let s = c.args.supplies.now in
    one_more_at s c.args.plan.now c.loop-number.plan c.plan_supply.new.plan s c.loop-number.number Always Always (λ units p n x. IsSupplyPlanned s units p n x)
    (λ units n x grows h. supply_stays s units c.loop-number.plan c.plan_supply.new.plan n x grows h) (λ units any. any) c.loop-number.invariant c.in_ok-plan_supply.ensures

pub returns : goal.returns
returns c =
    let s = c.args.supplies.now in
    let end = c.len-number-end.ensures in
    let past = c.loop-number-test.false in
    all_gathered s c.args.plan.now c.loop-number.plan s c.loop-number.number Always (λ units n x. IsSupplyPlanned s units c.loop-number.plan n x) (omega arith)
    c.loop-number.invariant
