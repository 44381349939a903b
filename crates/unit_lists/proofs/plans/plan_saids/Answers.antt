use Rattle.supply_defs.specs.Values.{IsMentioned}
use Rattle.unit_lists.specs.Plans.{IsSaidPlanned}
use Rattle.unit_lists.proofs.GatherLemmas.{one_gathered}
use Rattle.unit_lists.proofs.PlanLemmas.{said_stays}
use Rattle.unit_lists.proofs.plans.plan_saids.Goals as goal

pub loop-said-preserved : goal.loop-said-preserved
loop-said-preserved c =
    let s = c.args.supplies.now in
    let n = c.args.supply in
    one_gathered s c.args.plan.now c.loop-said.plan c.plan_said.new.plan c.args.saids.now c.loop-said.said-index _ (λ units said. IsMentioned s said.unit n said.value)
    (λ units p said. IsSaidPlanned s units p n said) (λ units said grows h. said_stays s units c.loop-said.plan c.plan_said.new.plan n said grows h)
    c.loop-said-test.true c.loop-said.invariant c.in_ok-plan_said.ensures
