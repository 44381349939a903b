use Rattle.unit_lists.proofs.RootLemmas.{AreEndsTo}
use Rattle.unit_lists.proofs.roots.roots_of_ends.Given as goal

abbrev pub invariant-loop-unit : goal.invariant-loop-unit
invariant-loop-unit l = AreEndsTo l.supplies l.units l.roots l.unit
