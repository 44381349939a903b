use Rattle.std.proofs.Common.{map, ap, ◌∙◌}
use Rattle.std.specs.List.{flat_map}
use Rattle.lib_cells.specs.Groups.{names_in}
use Rattle.lib_cells.specs.Streams.{text_of}
use Rattle.lib_cells.proofs.cells.pin_names.Goals as goal

pub returns-clause-answers : goal.returns-clause-answers
returns-clause-answers c = (
  map text_of c.in_ok-words.words,
  c.in_ok-words.ensures.answers,
  c.in_ok-names.ensures.names ∙ ap (λ l. flat_map names_in (map text_of l)) c.as_slice.ensures.items,
)
