use Rattle.net_loops.proofs.MarkLemmas.{marked_more}
use Rattle.net_loops.proofs.loops.mark_bits.Goals as goal

pub loop-bit-preserved : goal.loop-bit-preserved
loop-bit-preserved c = marked_more c.args.bits.now c.loop-bit.bit-index _ c.args.count c.loop-bit.marks.items c.mark_bit.new.marks.items c.loop-bit-test.true c.mark_bit.ensures c.loop-bit.invariant
