use Rattle.std.proofs.Common.{◌∷◌, ◌++◌, [], map, ◌∙◌}
use Rattle.text_defs.specs.Tokens.{Token}
use Rattle.lib_cells.specs.LibraryWords.{LibraryClass}
use Rattle.lib_cells.specs.Streams.{word_view}
use Rattle.lib_cells.proofs.KeptLaws.{lone_last}
use Rattle.lib_cells.proofs.ReadLaws.{value_reads}
use Rattle.lib_cells.proofs.phrases.value.Goals as goal

pub returns-clause-answers : goal.returns-clause-answers
returns-clause-answers c =
    let m = c.in_ok-others.ensures.answers in
    let last = word_view c.in_ok-last.last in (
      map (λ (t : Token LibraryClass). t.text) (m.0 ++ last ∷ []),
      value_reads c.args.tokens.now c.one.new.self c.plain_words.new.tokens c.one-2.new.self c.semicolon.new.tokens _ last m.0 _
          c.in_ok-one.ensures.answers m.1 c.in_ok-last.ensures.answers c.in_ok-semicolon.ensures.answers,
      c.only.ensures ∙ lone_last c.in_ok-others.others (λ (t : Token LibraryClass). t.text) m.0 last m.2,
    )
