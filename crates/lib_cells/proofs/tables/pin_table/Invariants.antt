use Rattle.std.proofs.Common.{◌≡◌, length, map, take}
use Rattle.lib_cells.specs.CellViews.{pins_view}
use Rattle.lib_cells.specs.Mentions.{AreSaid, mentions_in}
use Rattle.lib_cells.proofs.tables.pin_table.Given as goal

abbrev pub invariant-loop-group : goal.invariant-loop-group
invariant-loop-group l = record {
  level : length l.table.marks.items ≡ length l.table.names;
  said : AreSaid (mentions_in (map pins_view (take l.group-index l.groups))) l.table;
}
