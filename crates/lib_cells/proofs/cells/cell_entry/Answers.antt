use Rattle.std.proofs.Common.{[], ◌∷◌, Some, sym, ap, ◌∙◌}
use Rattle.std.specs.Option.{option_map}
use Rattle.lib_cells.specs.CellViews.{pins_view}
use Rattle.lib_cells.specs.Groups.{Attribute, Says, cell_behind, present}
use Rattle.lib_cells.specs.Marks.{CellSaid, mark_of}
use Rattle.lib_cells.specs.Streams.{word_view}
use Rattle.lib_cells.specs.declared.marks.Marks.{Marks}
use Rattle.lib_cells.proofs.MarkLaws.{marks-one}
use Rattle.lib_cells.proofs.ReadLaws.{attribute_reads, other_reads}
use Rattle.lib_cells.proofs.cells.cell_entry.Goals as goal

pub returns-then-is_next-clause-answers : goal.returns-then-is_next-clause-answers
returns-then-is_next-clause-answers c =
    let m = c.in_ok-word.ensures.answers in
    let w = word_view c.in_ok-head.head in
    let a : Attribute = record { name = w.text; value = m.0 } in
    let said = λ (x : Marks). let s : CellSaid = record { marks = x; groups = [] } in s in (
      Some (Says a),
      attribute_reads (λ x. Some (Says x)) (cell_behind c.args.depth) c.args.tokens.now c.one.new.self c.value.new.tokens w m.0
          c.in_ok-head.ensures.answers (sym c.is_next.ensures ∙ c.if-is_next.true) m.1,
      ap said (c.of.ensures ∙ ap (mark_of w.text) m.2 ∙ sym (marks-one a)),
    )

pub returns-clause-answers : goal.returns-clause-answers
returns-clause-answers c =
    let m = c.in_ok-group.ensures.answers in
    let w = word_view c.in_ok-head.head in
    let said = λ (x : Marks). let s : CellSaid = record { marks = x; groups = present (option_map pins_view c.in_ok-group.group ∷ []) } in s in (
      m.0,
      other_reads (λ x. Some (Says x)) (cell_behind c.args.depth) c.args.tokens.now c.one.new.self w c.in_ok-head.ensures.answers (sym c.is_next.ensures ∙ c.if-is_next.false) ∙ m.1,
      ap said c.none.ensures ∙ m.2,
    )
