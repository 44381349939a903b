use Rattle.unit_lists.proofs.GatherLemmas.{whole_plan}
use Rattle.unit_lists.proofs.plans.plan_of.Goals as goal

pub returns : goal.returns
returns c =
    whole_plan c.args.supplies.now c.args.units.now _ c.plan_supplies.new.plan c.plan_units.new.plan c.in_ok-roots.ensures c.new.ensures.empty c.new-2.ensures.empty
    c.new-3.ensures.empty c.new-4.ensures.items c.new-5.ensures.empty c.in_ok-plan_supplies.ensures c.in_ok-plan_units.ensures
