use Rattle.std.proofs.Common.{◌<◌, ℕ, length}
use Rattle.supply_defs.specs.Network.{IsRoot}
use Rattle.supply_net.proofs.RootLemmas.{Passed}
use Rattle.supply_net.proofs.roots.root_of.Given as goal

abbrev pub invariant-loop-step : goal.invariant-loop-step
invariant-loop-step l = record {
  there : l.at < length l.supplies;
  passed : Passed l.supplies l.at l.step;
  root : (r : ℕ) → IsRoot l.supplies l.stop l.at r → IsRoot l.supplies l.stop l.supply r;
}
