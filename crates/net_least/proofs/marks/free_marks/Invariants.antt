use Rattle.net_least.specs.Recursion.{AreFree}
use Rattle.net_least.proofs.marks.free_marks.Given as goal

abbrev pub invariant-loop : goal.invariant-loop
invariant-loop l = AreFree l.types l.search.free.items
