use Rattle.std.proofs.Common.{codes, sym, ◌∙◌}
use Rattle.state_terms.proofs.Comparisons.{names_power, names_ground, no_function, text_is, text_is_not}
use Rattle.state_terms.proofs.values.function.Goals as goal

pub returns-then-is_power : goal.returns-then-is_power
returns-then-is_power c = names_power c.args.word.now (text_is c.args.word.now (codes "power") (sym c.is_power.ensures ∙ c.if-is_power.true))

pub returns-then-is_ground : goal.returns-then-is_ground
returns-then-is_ground c = names_ground c.args.word.now (text_is c.args.word.now (codes "ground") (sym c.is_ground.ensures ∙ c.if-is_ground.true))

pub returns : goal.returns
returns c =
    no_function c.args.word.now (text_is_not c.args.word.now (codes "power") (sym c.is_power.ensures ∙ c.if-is_power.false))
    (text_is_not c.args.word.now (codes "ground") (sym c.is_ground.ensures ∙ c.if-is_ground.false))
