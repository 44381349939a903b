use Rattle.std.proofs.Common.{◌≡◌, length}
use Rattle.net_instances.proofs.order.places_in.Given as goal

abbrev pub invariant-loop-n : goal.invariant-loop-n
invariant-loop-n l = length l.places.items ≡ l.count
