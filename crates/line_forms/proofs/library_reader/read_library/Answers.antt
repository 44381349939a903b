use Rattle.std.proofs.Common.{ap, ◌∙◌}
use Rattle.line_forms.specs.Reading.{whole}
use Rattle.line_forms.specs.LibraryReading.{library_at}
use Rattle.line_forms.proofs.Laws.{read_is, taken, whole_again}
use Rattle.line_forms.proofs.LibraryLaws.{library_finds, library_again}
use Rattle.line_forms.proofs.library_reader.read_library.Goals as goal

pub returns-clause-found : goal.returns-clause-found
returns-clause-found c = read_is library_finds c.args.text.now c.library.result c.library.ensures

pub returns-clause-only : goal.returns-clause-only
returns-clause-only c = λ x is spelled. taken c.library.result (whole library_at c.args.text.now) x c.library.ensures (ap (whole library_at) spelled ∙ whole_again library_again tt x is)
