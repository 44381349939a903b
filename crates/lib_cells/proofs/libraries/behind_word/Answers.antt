use Rattle.std.proofs.Common.{None, sym, refl, ◌∙◌}
use Rattle.std.specs.Option.{option_map}
use Rattle.lib_cells.specs.Groups.{Attribute, entry}
use Rattle.lib_cells.specs.Streams.{word_view}
use Rattle.lib_cells.proofs.ReadLaws.{cell_chosen, passed_over, word_passed}
use Rattle.lib_cells.proofs.libraries.behind_word.Goals as goal

pub returns-then-not-is_cell-clause-answers : goal.returns-then-not-is_cell-clause-answers
returns-then-not-is_cell-clause-answers c =
    let name = option_map (λ n. n.now) c.args.name in (
      None,
      word_passed 97 (word_view c.args.head) name c.args.tokens.now (sym c.is_cell.ensures ∙ c.if-not-is_cell.true)
          ∙ passed_over {B = Attribute} (entry 98) c.args.tokens.now c.behind_skipped.new.tokens c.in_ok-behind_skipped.ensures.answers,
      refl,
    )

pub returns-clause-answers : goal.returns-clause-answers
returns-clause-answers c =
    let m = c.in_ok-cell.ensures.answers in
    let name = option_map (λ n. n.now) c.args.name in
    (m.0, cell_chosen 97 (word_view c.args.head) name c.args.tokens.now (sym c.is_cell.ensures ∙ c.if-not-is_cell.false) ∙ m.1, m.2)
