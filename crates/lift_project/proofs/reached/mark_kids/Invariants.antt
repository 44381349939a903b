use Rattle.lift_project.proofs.MarkLemmas.{MarksFirst}
use Rattle.lift_project.proofs.reached.mark_kids.Given as goal

abbrev pub invariant-loop-kid : goal.invariant-loop-kid
invariant-loop-kid l = MarksFirst l.kids l.kid-index l.fn.marks l.marks
