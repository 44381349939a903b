use Rattle.net_hierarchy.specs.ByName.{AreApartBefore}
use Rattle.net_hierarchy.proofs.by_name.first_twice.Given as goal

abbrev pub invariant-loop-place : goal.invariant-loop-place
invariant-loop-place l = AreApartBefore l.kinds l.modules.modules l.place
