use Rattle.std.proofs.Common.{◌-◌}
use Rattle.lift_project.specs.Lifts.{shapes_of}
use Rattle.lift_project.proofs.MarkLemmas.{AreReachedDown}
use Rattle.lift_project.proofs.reached.reached.Given as goal

abbrev pub invariant-loop-n : goal.invariant-loop-n
invariant-loop-n l = AreReachedDown (shapes_of l.kept) l.node l.n l.marks.items

abbrev pub decreases-loop-n : goal.decreases-loop-n
decreases-loop-n l = l.n - 1
