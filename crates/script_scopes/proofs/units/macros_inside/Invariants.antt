use Rattle.std.proofs.Common.{◌≡◌, ◌<◌, ◌++◌, length, map}
use Rattle.script_scopes.specs.Marked.{marked}
use Rattle.script_scopes.specs.Standing.{own_path}
use Rattle.script_scopes.specs.Units.{macros_from}
use Rattle.script_scopes.proofs.units.macros_inside.Given as goal

-- those that were found and those above make all
abbrev pub invariant-loop-n : goal.invariant-loop-n
invariant-loop-n l = record {
  within : l.at < length l.hierarchy.insts;
  all : map (own_path l.hierarchy) l.inside.items ++ macros_from l.hierarchy (marked l.hierarchy l.marks) l.unit l.at
      ≡ macros_from l.hierarchy (marked l.hierarchy l.marks) l.unit l.inst;
}

abbrev pub decreases-loop-n : goal.decreases-loop-n
decreases-loop-n l = l.at
