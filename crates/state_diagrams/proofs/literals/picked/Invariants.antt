use Rattle.state_diagrams.specs.Masks.{IsPicked}
use Rattle.state_diagrams.proofs.literals.picked.Given as goal

abbrev pub invariant-loop-v : goal.invariant-loop-v
invariant-loop-v l = IsPicked l.mask l.n l.v l.kids.items
