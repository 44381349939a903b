use Rattle.std.proofs.Common.{map, take}
use Rattle.std.specs.List.{filter_map}
use Rattle.lib_cells.specs.CellViews.{AreKept, pins_view}
use Rattle.lib_cells.specs.Marks.{marks_for, pin_by}
use Rattle.lib_cells.proofs.pins.kept_pins.Given as goal

abbrev pub invariant-loop-at : goal.invariant-loop-at
invariant-loop-at l = AreKept (filter_map (λ name. pin_by name (marks_for name (map pins_view l.groups))) (take l.at l.table.names)) l.kept
