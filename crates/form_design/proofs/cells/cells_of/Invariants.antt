use Rattle.std.proofs.Common.{◌≡◌, ◌++◌, map, drop}
use Rattle.form_design.specs.Designs.{cell_of}
use Rattle.form_design.proofs.cells.cells_of.Given as goal

-- those so far and those that are left are all
abbrev pub invariant-loop-cell : goal.invariant-loop-cell
invariant-loop-cell l = l.cells ++ map cell_of (drop l.cell-index l.lines) ≡ map cell_of l.lines
