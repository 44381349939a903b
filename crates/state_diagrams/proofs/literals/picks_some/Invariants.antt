use Rattle.state_diagrams.specs.Masks.{PicksNone}
use Rattle.state_diagrams.proofs.literals.picks_some.Given as goal

abbrev pub invariant-loop-v : goal.invariant-loop-v
invariant-loop-v l = PicksNone l.mask l.v
