use Rattle.std.proofs.Common.{◌≡◌, false, take}
use Rattle.list_defs.specs.Members.{IsIn}
use Rattle.lib_cells.specs.CellsMeant.{is_odd}
use Rattle.lib_cells.specs.declared.libraries.PlacedCell.{PlacedCell}
use Rattle.cell_joins.proofs.readings.checked_roles.Given as goal

abbrev pub invariant-loop-group : goal.invariant-loop-group
invariant-loop-group l = (q : PlacedCell) → IsIn q (take l.group-index l.placed) → is_odd q.cell ≡ false
