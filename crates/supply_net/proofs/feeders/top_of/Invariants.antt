use Rattle.std.proofs.Common.{◌<◌, length}
use Rattle.supply_net.specs.Feeders.{AreAbove, LeadsTo}
use Rattle.supply_net.proofs.feeders.top_of.Given as goal

abbrev pub invariant-loop-step : goal.invariant-loop-step
invariant-loop-step l = record {
  above : AreAbove l.supplies l.above.items;
  there : l.at < length l.supplies;
  way : LeadsTo l.supplies l.supply l.at;
}
