use Rattle.std.proofs.Common.{ℕ, ◌<◌, List, length}
use Rattle.pw_defs.specs.declared.intent.Unit.{Unit as PowerUnit}
use Rattle.supply_defs.specs.UnitViews.{IsRootIn}
use Rattle.supply_net.proofs.RootLemmas.{Passed}
use Rattle.unit_lists.specs.Roots.{AreRoots}
use Rattle.unit_lists.proofs.roots.root_up.Given as goal

abbrev pub invariant-loop-step : goal.invariant-loop-step
invariant-loop-step l = record {
  there : l.at < length l.supplies;
  passed : Passed l.supplies l.at l.step;
  root : (units : List PowerUnit) → AreRoots l.supplies units l.roots → (r : ℕ) → IsRootIn l.supplies units l.view.unit l.at r
      → IsRootIn l.supplies units l.view.unit l.view.supply r;
}
