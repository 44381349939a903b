use Rattle.unit_lists.proofs.ListLemmas.{BeginsSoFar}
use Rattle.unit_lists.proofs.lists.add_own_values.Given as goal

abbrev pub invariant-loop-view : goal.invariant-loop-view
invariant-loop-view l = BeginsSoFar l.supplies l.met.keys l.given.keys l.initial.begins.items l.begins.items l.view-iterator
