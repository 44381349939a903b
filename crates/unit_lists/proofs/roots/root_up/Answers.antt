use Rattle.std.proofs.Common.{None, Some, sym, arith}
use Rattle.supply_defs.specs.Network.{IsRoot, IsUnfed, IsFedBy}
use Rattle.supply_net.proofs.RootLemmas.{none_passed, passed_on, few_steps, feeder_there}
use Rattle.unit_lists.proofs.RootLemmas.{kept_root, root_from_feeder}
use Rattle.unit_lists.specs.declared.views.View.{View}
use Rattle.unit_lists.proofs.roots.root_up.Goals as goal

pub loop-step-init : goal.loop-step-init
loop-step-init c = record { there = c.requires.there; passed = none_passed c.args.supplies.now c.args.view.supply; root = λ units kept r h. h }

pub returns-in-Some : goal.returns-in-Some
returns-in-Some c = λ units kept.
    c.loop-step.invariant.root units kept c.in-Some.root.now
    (kept_root c.args.supplies.now units c.args.roots.now (record { unit = c.args.view.unit; supply = c.loop-step.at }) c.get.result c.in-Some.root kept c.in-Some.is c.get.ensures.value)

pub returns-in-None : goal.returns-in-None
returns-in-None c = λ units kept.
    let h = c.loop-step.invariant in
    let end : IsUnfed c.args.supplies.now c.loop-step.at =
    feeder_there c.args.supplies.now c.as_slice-items.result.now c.loop-step.at _ None c.as_slice-items.ensures.items h.there c.in-None.is in
    h.root units kept c.loop-step.at (IsRoot.unfed c.loop-step.at end)

pub loop-step-preserved : goal.loop-step-preserved
loop-step-preserved c =
    let h = c.loop-step.invariant in
    let s = c.args.supplies.now in
    let at = c.loop-step.at in
    let step : IsFedBy s at c.in-Some-feeder.feeder =
    feeder_there s c.as_slice-items.result.now at _ (Some c.in-Some-feeder.feeder) c.as_slice-items.ensures.items h.there c.in-Some-feeder.is in
    let here : View = record { unit = c.args.view.unit; supply = at } in
    record {
      there = c.requires.feeders.in_range at c.in-Some-feeder.feeder step;
      passed = passed_on s c.requires.feeders.ringless at c.in-Some-feeder.feeder c.loop-step.step h.there step h.passed;
      root = λ units kept r is. h.root units kept r (root_from_feeder s units c.args.roots.now here c.in-Some-feeder.feeder r kept (sym c.in_default.ensures.value) step is);
    }

pub returns : goal.returns
returns c =
    let h = c.loop-step.invariant in
    let few = few_steps c.args.supplies.now c.requires.feeders.ringless c.loop-step.at c.loop-step.step h.there h.passed in
    let end = c.loop-step-test.false in
    let all = c.len-step-end.ensures in
    absurd (omega arith)
