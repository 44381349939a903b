use Rattle.std.proofs.Common.{codes, sym, ◌∙◌}
use Rattle.state_terms.proofs.Comparisons.{level_off, level_on, no_level, text_is, text_is_not}
use Rattle.state_terms.proofs.values.level.Goals as goal

pub returns-then-is_off : goal.returns-then-is_off
returns-then-is_off c = level_off c.args.power c.args.word.now (text_is c.args.word.now (codes "OFF") (sym c.is_off.ensures ∙ c.if-is_off.true))

pub returns-then-is_full_on : goal.returns-then-is_full_on
returns-then-is_full_on c = level_on c.args.power c.args.word.now (text_is c.args.word.now (codes "FULL_ON") (sym c.is_full_on.ensures ∙ c.if-is_full_on.true))

pub returns : goal.returns
returns c =
    no_level c.args.power c.args.word.now (text_is_not c.args.word.now (codes "OFF") (sym c.is_off.ensures ∙ c.if-is_off.false))
    (text_is_not c.args.word.now (codes "FULL_ON") (sym c.is_full_on.ensures ∙ c.if-is_full_on.false))
