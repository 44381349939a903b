use Rattle.lib_cells.specs.CellViews.{draft_view}
use Rattle.lib_cells.proofs.CellLaws.{placed_meant}
use Rattle.lib_cells.proofs.libraries.cell_of_block.Goals as goal

pub returns-clause-answers : goal.returns-clause-answers
returns-clause-answers c =
    let m = c.in_ok-said.ensures.answers in
    (m.0, m.1, placed_meant c.args.line c.args.name.now m.0 c.in_ok-cell.cell (draft_view c.in_ok-said.said) m.2 c.in_ok-cell.ensures.cell)
