use Rattle.std.proofs.Common.{Some, None, sym, refl, ◌∙◌}
use Rattle.lib_cells.specs.Groups.{is_word, some_arguments}
use Rattle.lib_cells.proofs.ReadLaws.{option_left, option_reads}
use Rattle.lib_cells.proofs.phrases.only_inside.Goals as goal

pub returns-then-not-is_next-clause-answers : goal.returns-then-not-is_next-clause-answers
returns-then-not-is_next-clause-answers c = (None, option_left is_word some_arguments c.args.tokens.now (sym c.is_next.ensures ∙ c.if-not-is_next.true), refl)

pub returns-clause-answers : goal.returns-clause-answers
returns-clause-answers c =
    let m = c.in_ok-only.ensures.answers in
    (Some m.0, option_reads is_word some_arguments c.args.tokens.now c.only_of_some.new.tokens m.0 (sym c.is_next.ensures ∙ c.if-not-is_next.false) m.1, m.2)
