use Rattle.std.proofs.Common.{◌≡◌, ◌+◌, suc, ℕ, map, None, sym, ap, refl, ◌∙◌, arith}
use Rattle.text_defs.specs.Grammar.{read}
use Rattle.lib_cells.specs.Groups.{arguments, cell_behind}
use Rattle.lib_cells.specs.Kept.{behind_entry}
use Rattle.lib_cells.specs.Streams.{word_view}
use Rattle.lib_cells.proofs.ReadLaws.{other_in_cell, pins_in_cell, then_reads}
use Rattle.lib_cells.proofs.cells.behind_head.Goals as goal

pub returns-then-not-is_pin-clause-answers : goal.returns-then-not-is_pin-clause-answers
returns-then-not-is_pin-clause-answers c =
    let m = c.in_ok-only_argument.ensures.answers in
    let head = word_view c.args.head in
    let next : c.args.depth + 1 ≡ suc c.args.depth = omega arith in (
      None,
      then_reads arguments (cell_behind c.args.depth head) c.args.tokens.now c.only_argument.new.tokens m.0 m.1
          ∙ other_in_cell c.args.depth head m.0 c.only_argument.new.tokens c.behind_skipped.new.tokens (sym c.is_pin.ensures ∙ c.if-not-is_pin.true)
          (ap (λ (n : ℕ). read (behind_entry n) c.only_argument.new.tokens) (sym next) ∙ c.in_ok-behind_skipped.ensures.answers),
      refl,
    )

pub returns-clause-answers : goal.returns-clause-answers
returns-clause-answers c =
    let n = c.in_ok-names.ensures.answers in
    let m = c.in_ok-group.ensures.answers in
    let head = word_view c.args.head in (
      m.0,
      then_reads arguments (cell_behind c.args.depth head) c.args.tokens.now c.pin_names.new.tokens n.0 n.1
          ∙ pins_in_cell c.args.depth head n.0 (map (λ x. x.now) c.in_ok-names.names) c.pin_names.new.tokens (sym c.is_pin.ensures ∙ c.if-not-is_pin.false) n.2 ∙ m.1,
      m.2,
    )
