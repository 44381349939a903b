use Rattle.std.proofs.Common.{◌∷◌, ◌∙◌}
use Rattle.lib_cells.specs.Streams.{word_view}
use Rattle.lib_cells.proofs.KeptLaws.{lone_first}
use Rattle.lib_cells.proofs.ReadLaws.{some_arguments_read}
use Rattle.lib_cells.proofs.phrases.only_of_some.Goals as goal

pub returns-clause-answers : goal.returns-clause-answers
returns-clause-answers c =
    let m = c.in_ok-others.ensures.answers in
    let first = c.in_ok-first.first in (
      first.text.now ∷ m.0,
      some_arguments_read c.args.tokens.now c.one.new.self c.further_arguments.new.tokens (word_view first) m.0 c.in_ok-first.ensures.answers m.1,
      c.only.ensures ∙ lone_first c.in_ok-others.others first.text.now m.0 m.2,
    )
