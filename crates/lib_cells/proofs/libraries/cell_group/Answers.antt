use Rattle.std.proofs.Common.{Some, None, sym, refl, ap, ◌∙◌}
use Rattle.std.specs.Option.{option_map}
use Rattle.lib_cells.specs.Groups.{present}
use Rattle.lib_cells.specs.declared.libraries.PlacedCell.{PlacedCell}
use Rattle.lib_cells.proofs.ReadLaws.{group_named, group_unnamed, group_without}
use Rattle.lib_cells.proofs.libraries.cell_group.Goals as goal

pub returns-in-None-clause-answers : goal.returns-in-None-clause-answers
returns-in-None-clause-answers c = (
  None,
  group_unnamed 97 c.args.line (option_map (λ n. n.now) c.args.name) c.args.tokens.now c.semicolon.new.tokens _ (ap (option_map (λ n. n.now)) c.in-None.is) c.in_ok-semicolon-in-None.ensures.answers,
  refl,
)

pub returns-then-not-is_next-clause-answers : goal.returns-then-not-is_next-clause-answers
returns-then-not-is_next-clause-answers c = (
  None,
  group_without 97 c.args.line (option_map (λ n. n.now) c.args.name) c.in-Some.name.now c.args.tokens.now c.semicolon-then-not-is_next.new.tokens _
      (ap (option_map (λ n. n.now)) c.in-Some.is) (sym c.is_next.ensures ∙ c.if-not-is_next.true) c.in_ok-semicolon.ensures.answers,
  refl,
)

pub returns-clause-answers : goal.returns-clause-answers
returns-clause-answers c =
    let m = c.in_ok-cell.ensures.answers in (
      Some (record { name = c.in-Some.name.now; line = c.args.line; parts = present m.0 }),
      group_named 97 c.args.line (option_map (λ n. n.now) c.args.name) c.in-Some.name.now c.args.tokens.now c.cell_of_block.new.tokens m.0
          (ap (option_map (λ n. n.now)) c.in-Some.is) (sym c.is_next.ensures ∙ c.if-not-is_next.false) m.1,
      ap (λ (p : PlacedCell). Some p) m.2,
    )
