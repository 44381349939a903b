use Rattle.std.proofs.Common.{◌≡◌, ◌<◌, ◌≤◌, length}
use Rattle.script_scopes.specs.Marked.{marked}
use Rattle.script_scopes.specs.Units.{macros_from}
use Rattle.script_scopes.proofs.units.macro_inside.Given as goal

-- no soft macro was passed
abbrev pub invariant-loop-at : goal.invariant-loop-at
invariant-loop-at l = record {
  within : l.at < length l.hierarchy.insts;
  up : l.at ≤ l.inst;
  same : macros_from l.hierarchy (marked l.hierarchy l.marks) l.unit l.at ≡ macros_from l.hierarchy (marked l.hierarchy l.marks) l.unit l.inst;
}

abbrev pub decreases-loop-at : goal.decreases-loop-at
decreases-loop-at l = l.at
