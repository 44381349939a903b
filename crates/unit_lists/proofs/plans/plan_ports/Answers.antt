use Rattle.std.proofs.Common.{get_or}
use Rattle.supply_defs.specs.Values.{IsPortWithin}
use Rattle.unit_lists.specs.Plans.{IsPortPlanned}
use Rattle.unit_lists.proofs.GatherLemmas.{at_place, one_gathered}
use Rattle.unit_lists.proofs.PlanLemmas.{port_stays}
use Rattle.unit_lists.proofs.plans.plan_ports.Goals as goal

pub plan_port-requires-clause-there : goal.plan_port-requires-clause-there
plan_port-requires-clause-there c =
    c.requires.there (get_or c.args.ports.now c.loop-port.port-index 0) (at_place c.args.ports.now c.loop-port.port-index 0 c.loop-port-test.true)

pub loop-port-preserved : goal.loop-port-preserved
loop-port-preserved c =
    let s = c.args.supplies.now in
    let unit = c.args.unit in
    let inner = c.args.inner in
    one_gathered s c.args.plan.now c.loop-port.plan c.plan_port.new.plan c.args.ports.now c.loop-port.port-index 0 (λ units port. IsPortWithin units unit inner port)
    (λ units p port. IsPortPlanned s units p unit inner port) (λ units port grows h. port_stays s units c.loop-port.plan c.plan_port.new.plan unit inner port grows h)
    c.loop-port-test.true c.loop-port.invariant c.in_ok-plan_port.ensures
