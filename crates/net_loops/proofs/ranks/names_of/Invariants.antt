use Rattle.std.proofs.Common.{take}
use Rattle.net_loops.specs.Ranks.{AreSpelled}
use Rattle.net_loops.proofs.ranks.names_of.Given as goal

abbrev pub invariant-loop-bit : goal.invariant-loop-bit
invariant-loop-bit l = AreSpelled l.placed (take l.bit-index l.bits) l.all.items
