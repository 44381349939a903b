use Rattle.std.proofs.Common.{◌≡◌, map}
use Rattle.std.specs.List.{range_with_len}
use Rattle.net_outline.specs.Outline.{bits_at}
use Rattle.net_outline.proofs.counts.bits_of.Given as goal

abbrev pub invariant-loop-number : goal.invariant-loop-number
invariant-loop-number l = l.bits.items ≡ map (bits_at l.plans l.kind) (range_with_len 0 l.number)
