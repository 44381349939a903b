use Rattle.std.proofs.Common.{◌≡◌, take}
use Rattle.design_walks.specs.Trails.{next_bits}
use Rattle.design_walks.proofs.building.next_bits.Given as goal

abbrev pub invariant-loop-n : goal.invariant-loop-n
invariant-loop-n l = l.next.items ≡ next_bits (take l.n l.design.bits)
