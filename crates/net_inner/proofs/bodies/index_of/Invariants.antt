use Rattle.std.proofs.Common.{◌≡◌, map, take}
use Rattle.design_defs.specs.Hierarchy.{Sources, HasBody}
use Rattle.net_inner.specs.Inside.{HasPlans, local_name, nets_in}
use Rattle.net_places.specs.Nets.{local_bits}
use Rattle.net_inner.proofs.bodies.index_of.Given as goal

abbrev pub invariant-loop-net : goal.invariant-loop-net
invariant-loop-net l = (s : Sources) → HasPlans s l.placed → HasBody s l.body → l.index ≡ map (local_name s l.body) (local_bits (take l.net (nets_in s l.placed l.body)))
