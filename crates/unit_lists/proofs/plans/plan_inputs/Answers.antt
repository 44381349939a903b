use Rattle.std.proofs.Common.{get_or}
use Rattle.supply_defs.specs.Values.{IsNamedInput, IsSwitchOutput}
use Rattle.unit_lists.specs.Plans.{IsInputPlanned}
use Rattle.unit_lists.proofs.GatherLemmas.{at_place, one_gathered}
use Rattle.unit_lists.proofs.PlanLemmas.{input_stays}
use Rattle.unit_lists.proofs.plans.plan_inputs.Goals as goal

pub plan_input-requires-clause-there : goal.plan_input-requires-clause-there
plan_input-requires-clause-there c =
    c.requires.there (get_or c.args.inputs.now c.loop-input.input-index 0) (at_place c.args.inputs.now c.loop-input.input-index 0 c.loop-input-test.true)

pub loop-input-preserved : goal.loop-input-preserved
loop-input-preserved c =
    let s = c.args.supplies.now in
    let output = c.args.output in
    one_gathered s c.args.plan.now c.loop-input.plan c.plan_input.new.plan c.args.inputs.now c.loop-input.input-index 0
    (λ units input. IsSwitchOutput s output.unit output.supply × IsNamedInput s output.supply input)
    (λ units p input. IsInputPlanned s units p output.unit output.supply input)
    (λ units input grows h. input_stays s units c.loop-input.plan c.plan_input.new.plan output.unit output.supply input grows h) c.loop-input-test.true
    c.loop-input.invariant c.in_ok-plan_input.ensures
