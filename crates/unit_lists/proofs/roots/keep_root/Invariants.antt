use Rattle.std.proofs.Common.{◌<◌, List, length}
use Rattle.pw_defs.specs.declared.intent.Unit.{Unit as PowerUnit}
use Rattle.supply_defs.specs.UnitViews.{IsRootIn}
use Rattle.unit_lists.specs.Roots.{AreRoots}
use Rattle.unit_lists.proofs.roots.keep_root.Given as goal

abbrev pub invariant-loop-step : goal.invariant-loop-step
invariant-loop-step l = record {
  there : l.at < length l.supplies;
  roots : (units : List PowerUnit) → AreRoots l.supplies units l.initial.roots → IsRootIn l.supplies units l.view.unit l.view.supply l.root
      → AreRoots l.supplies units l.roots × IsRootIn l.supplies units l.view.unit l.at l.root;
}
