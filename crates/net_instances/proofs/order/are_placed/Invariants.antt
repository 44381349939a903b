use Rattle.net_instances.specs.Orders.{ArePlaces}
use Rattle.net_instances.proofs.order.are_placed.Given as goal

abbrev pub invariant-loop-n : goal.invariant-loop-n
invariant-loop-n l = ArePlaces l.order l.places l.n
