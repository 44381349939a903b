use Rattle.std.proofs.Common.{map, ap, subst, ◌∙◌}
use Rattle.lib_cells.specs.CellViews.{AreKept, cell_with, pins_view}
use Rattle.lib_cells.specs.Marks.{pins_by}
use Rattle.lib_cells.proofs.RoleLaws.{kept_cell}
use Rattle.lib_cells.proofs.pins.cell_of.Goals as goal

pub returns-clause-cell : goal.returns-clause-cell
returns-clause-cell c =
    c.cell_with.ensures ∙ ap (λ n. cell_with n c.args.said.marks c.in_ok-kept.kept) c.in_ok-name.ensures
    ∙ kept_cell c.args.name.now c.args.said.marks (pins_by (map pins_view c.args.said.groups)) c.in_ok-kept.kept
    (subst (λ l. AreKept (pins_by (map pins_view l)) c.in_ok-kept.kept) c.as_slice.ensures.items c.in_ok-kept.ensures.kept)
