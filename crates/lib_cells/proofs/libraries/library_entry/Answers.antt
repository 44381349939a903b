use Rattle.std.proofs.Common.{None, sym, refl, ◌∙◌}
use Rattle.lib_cells.specs.Groups.{arguments, library_behind}
use Rattle.lib_cells.specs.Streams.{word_view}
use Rattle.lib_cells.proofs.ReadLaws.{attribute_reads, other_reads, then_reads, word_by_lone}
use Rattle.lib_cells.proofs.libraries.library_entry.Goals as goal

pub returns-then-is_next-clause-answers : goal.returns-then-is_next-clause-answers
returns-then-is_next-clause-answers c =
    let m = c.in_ok-value.ensures.answers in (
      None,
      attribute_reads (λ _. None) (library_behind 97) c.args.tokens.now c.one.new.self c.value.new.tokens (word_view c.in_ok-head.head) m.0
          c.in_ok-head.ensures.answers (sym c.is_next.ensures ∙ c.if-is_next.true) m.1,
      refl,
    )

pub returns-clause-answers : goal.returns-clause-answers
returns-clause-answers c =
    let a = c.in_ok-name.ensures.answers in
    let m = c.in_ok-cell.ensures.answers in
    let head = word_view c.in_ok-head.head in (
      m.0,
      other_reads (λ _. None) (library_behind 97) c.args.tokens.now c.one.new.self head c.in_ok-head.ensures.answers (sym c.is_next.ensures ∙ c.if-is_next.false)
          ∙ then_reads arguments (library_behind 97 head) c.one.new.self c.only_argument.new.tokens a.0 a.1
          ∙ word_by_lone 97 head a.0 _ c.only_argument.new.tokens a.2 ∙ m.1,
      m.2,
    )
