use Rattle.unit_lists.specs.Flow.{IsFlow}
use Rattle.unit_lists.proofs.flow.reached.Given as goal

abbrev pub invariant-loop : goal.invariant-loop
invariant-loop l = IsFlow l.fn.begins.items l.links.keys l.work.items l.reached.keys
