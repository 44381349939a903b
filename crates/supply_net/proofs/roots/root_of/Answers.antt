use Rattle.std.proofs.Common.{None, Some, sym, ◌∙◌, arith}
use Rattle.supply_defs.specs.Network.{IsRoot, IsUnfed, IsFedBy}
use Rattle.supply_net.proofs.RootLemmas.{none_passed, passed_on, few_steps, in_stop, off_stop, feeder_there}
use Rattle.supply_net.proofs.roots.root_of.Goals as goal

pub loop-step-init : goal.loop-step-init
loop-step-init c = record { there = c.requires.there; passed = none_passed c.args.supplies.now c.args.supply; root = λ r h. h }

pub returns-then-contains : goal.returns-then-contains
returns-then-contains c =
    c.loop-step.invariant.root c.loop-step.at
    (IsRoot.stopped c.loop-step.at (in_stop c.loop-step.at c.args.stop.now (sym c.contains.ensures.value ∙ c.if-contains.true)))

pub returns-in-None : goal.returns-in-None
returns-in-None c =
    let h = c.loop-step.invariant in
    let end : IsUnfed c.args.supplies.now c.loop-step.at =
    feeder_there c.args.supplies.now c.as_slice-items.result.now c.loop-step.at _ None c.as_slice-items.ensures.items h.there c.in-None.is in
    h.root c.loop-step.at (IsRoot.unfed c.loop-step.at end)

pub loop-step-preserved : goal.loop-step-preserved
loop-step-preserved c =
    let h = c.loop-step.invariant in
    let s = c.args.supplies.now in
    let at = c.loop-step.at in
    let step : IsFedBy s at c.in-Some.feeder =
    feeder_there s c.as_slice-items.result.now at _ (Some c.in-Some.feeder) c.as_slice-items.ensures.items h.there c.in-Some.is in
    record {
      there = c.requires.in_range at c.in-Some.feeder step;
      passed = passed_on s c.requires.ringless at c.in-Some.feeder c.loop-step.step h.there step h.passed;
      root = λ r k. h.root r (IsRoot.fed at c.in-Some.feeder r (off_stop at c.args.stop.now (sym c.contains.ensures.value ∙ c.if-contains.false)) step k);
    }

pub returns : goal.returns
returns c =
    let h = c.loop-step.invariant in
    let few = few_steps c.args.supplies.now c.requires.ringless c.loop-step.at c.loop-step.step h.there h.passed in
    let end = c.loop-step-test.false in
    let all = c.len-step-end.ensures in
    absurd (omega arith)
