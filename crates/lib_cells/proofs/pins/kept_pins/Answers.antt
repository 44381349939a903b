use Rattle.std.proofs.Common.{◌<◌, length, map, take, ap, arith}
use Rattle.std.specs.List.{filter_map}
use Rattle.std.proofs.lemmas.List.{get_or_read}
use Rattle.lib_cells.specs.CellViews.{pins_view}
use Rattle.lib_cells.specs.Marks.{marks_for, pin_by}
use Rattle.lib_cells.proofs.RoleLaws.{kept_names, mark_at}
use Rattle.lib_cells.proofs.pins.kept_pins.Goals as goal

pub loop-at-preserved : goal.loop-at-preserved
loop-at-preserved c =
    let groups = map pins_view c.args.groups.now in
    let table = c.in_ok-table.table in
    let at = c.loop-at.at in
    let within : at < length table.names = omega (arith, c.loop-at-test.true, c.len-at-end.ensures.len) in
    let marked : at < length table.marks.items = omega (arith, within, c.in_ok-table.ensures.level) in
    kept_names (λ name. pin_by name (marks_for name groups)) table.names at c.name.result.now c.index.result.now c.keep.new.self c.name.ensures within
    (ap (pin_by c.name.result.now) (mark_at (λ name. marks_for name groups) table.names table.marks.items at c.name.result.now c.index.result.now c.in_ok-table.ensures.table.marks c.name.ensures
    (get_or_read table.marks.items at c.index.result.now marked c.index.ensures c.index.result.now)))
    (c.in_ok-keep.ensures.kept (filter_map (λ name. pin_by name (marks_for name groups)) (take at table.names)) c.loop-at.invariant)
