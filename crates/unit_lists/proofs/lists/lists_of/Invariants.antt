use Rattle.unit_lists.proofs.ListLemmas.{AreListsSoFar}
use Rattle.unit_lists.proofs.lists.lists_of.Given as goal

abbrev pub invariant-loop-view : goal.invariant-loop-view
invariant-loop-view l = AreListsSoFar l.seen.keys l.values.keys l.lists l.view-iterator
