use Rattle.std.proofs.Common.{Ok, take}
use Rattle.power_states.specs.TermMeaning.{EachMeans}
use Rattle.state_conditions.proofs.meanings.+conditions.Given as goal

abbrev pub invariant-conditions-loop-term : goal.invariant-conditions-loop-term
invariant-conditions-loop-term l = EachMeans l.names (take l.term-index l.terms) (Ok l.conds)
