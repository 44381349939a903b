use Rattle.std.proofs.Common.{Some}
use Rattle.supply_defs.specs.Network.{IsFedBy}
use Rattle.supply_net.proofs.RootLemmas.{feeder_there}
use Rattle.unit_lists.proofs.RootLemmas.{none_there, root_at_feeder, still_roots}
use Rattle.unit_lists.specs.declared.views.View.{View}
use Rattle.unit_lists.proofs.roots.keep_root.Goals as goal

pub returns-in-None : goal.returns-in-None
returns-in-None c = λ units kept root.
    let known = c.loop-step.invariant.roots units kept root in
    still_roots c.args.supplies.now units c.loop-step.roots c.insert.new.self (record { unit = c.args.view.unit; supply = c.loop-step.at }) c.args.root known.0 known.1
    c.in_ok-insert.ensures.updates.0

pub loop-step-preserved : goal.loop-step-preserved
loop-step-preserved c =
    let h = c.loop-step.invariant in
    let s = c.args.supplies.now in
    let at = c.loop-step.at in
    let step : IsFedBy s at c.in-Some.feeder =
    feeder_there s c.as_slice-items.result.now at _ (Some c.in-Some.feeder) c.as_slice-items.ensures.items h.there c.in-Some.is in
    let here : View = record { unit = c.args.view.unit; supply = at } in
    record {
      there = c.requires.feeders.in_range at c.in-Some.feeder step;
      roots = λ units kept root.
          let known = h.roots units kept root in (
            still_roots s units c.loop-step.roots c.insert.new.self here c.args.root known.0 known.1 c.in_ok-insert.ensures.updates.0,
            root_at_feeder s units c.loop-step.roots here c.in-Some.feeder c.args.root known.0 (none_there _ c.contains_key.result c.contains_key.ensures c.if-contains_key.false) step known.1,
          );
    }
