use Rattle.line_forms.proofs.Laws.{shorter}
use Rattle.line_forms.proofs.LibraryLaws.{cell_finds, cell_size}
use Rattle.line_forms.proofs.library_reader.CellLinesForm.read.Goals as goal

pub returns-clause-shorter : goal.returns-clause-shorter
returns-clause-shorter c = shorter cell_finds cell_size c.args.text.now c.cell.result c.cell.ensures
