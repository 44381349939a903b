use Rattle.std.proofs.Common.{take}
use Rattle.net_loops.specs.Least.{AreMarked}
use Rattle.net_loops.proofs.loops.mark_bits.Given as goal

abbrev pub invariant-loop-bit : goal.invariant-loop-bit
invariant-loop-bit l = AreMarked (take l.bit-index l.bits) l.count l.marks.items
