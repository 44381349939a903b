use Rattle.line_forms.proofs.Laws.{shorter}
use Rattle.line_forms.proofs.LibraryLaws.{pin_finds, pin_size}
use Rattle.line_forms.proofs.library_reader.PinLineForm.read.Goals as goal

pub returns-clause-shorter : goal.returns-clause-shorter
returns-clause-shorter c = shorter pin_finds pin_size c.args.text.now c.pin.result c.pin.ensures
