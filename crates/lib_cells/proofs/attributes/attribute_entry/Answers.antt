use Rattle.std.proofs.Common.{Some, None, sym, ap, ◌∙◌}
use Rattle.lib_cells.specs.Groups.{Attribute, arguments}
use Rattle.lib_cells.specs.Kept.{behind_entry}
use Rattle.lib_cells.specs.Marks.{mark_of}
use Rattle.lib_cells.specs.Streams.{word_view}
use Rattle.lib_cells.proofs.MarkLaws.{marks-one}
use Rattle.lib_cells.proofs.ReadLaws.{attribute_reads, other_reads, then_reads}
use Rattle.lib_cells.proofs.attributes.attribute_entry.Goals as goal

pub returns-then-is_next-clause-answers : goal.returns-then-is_next-clause-answers
returns-then-is_next-clause-answers c =
    let m = c.in_ok-word.ensures.answers in
    let w = word_view c.in_ok-name.name in
    let a : Attribute = record { name = w.text; value = m.0 } in (
      Some a,
      attribute_reads (λ x. Some x) (λ _ _. behind_entry c.args.depth) c.args.tokens.now c.one.new.self c.value.new.tokens w m.0
          c.in_ok-name.ensures.answers (sym c.is_next.ensures ∙ c.if-is_next.true) m.1,
      c.of.ensures ∙ ap (mark_of w.text) m.2 ∙ sym (marks-one a),
    )

pub returns-clause-answers : goal.returns-clause-answers
returns-clause-answers c =
    let m = c.in_ok-only_argument.ensures.answers in
    let w = word_view c.in_ok-name.name in (
      None,
      other_reads (λ x. Some x) (λ _ _. behind_entry c.args.depth) c.args.tokens.now c.one.new.self w c.in_ok-name.ensures.answers (sym c.is_next.ensures ∙ c.if-is_next.false)
          ∙ then_reads arguments (λ _. behind_entry c.args.depth) c.one.new.self c.only_argument.new.tokens m.0 m.1 ∙ c.in_ok-behind_skipped.ensures.answers,
      c.none.ensures,
    )
