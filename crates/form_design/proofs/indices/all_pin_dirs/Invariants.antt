use Rattle.std.proofs.Common.{◌≡◌, ◌++◌, map, drop}
use Rattle.form_design.specs.Names.{pin_dirs}
use Rattle.form_design.proofs.indices.all_pin_dirs.Given as goal

-- those so far and those that are left are all
abbrev pub invariant-loop-cell : goal.invariant-loop-cell
invariant-loop-cell l = l.dirs.items ++ map pin_dirs (drop l.cell-index l.cells) ≡ map pin_dirs l.cells
