use Rattle.std.proofs.Common.{arith}
use Rattle.net_feeds.proofs.TopMarks.{also_none, bits_all, bits_more}
use Rattle.net_feeds.proofs.tops.mark_bits.Goals as goal

pub loop-bit-init : goal.loop-bit-init
loop-bit-init c = record { marks = also_none _ c.args.marks.now.items (λ bit is. omega (arith, is.0, is.1)); short = omega arith }

pub loop-bit-preserved : goal.loop-bit-preserved
loop-bit-preserved c = record {
  marks = bits_more c.args.first c.loop-bit.bit c.args.marks.now.items c.loop-bit.marks.items c.loop-bit.auto.bit
      (omega (arith, c.loop-bit-test.true, c.min-end.ensures, c.len.ensures, c.loop-bit.invariant.marks.same)) c.loop-bit.invariant.marks;
  short = omega (arith, c.loop-bit-test.true, c.min-end.ensures, c.saturating_add.ensures, c.loop-bit.auto.bit);
}

pub returns : goal.returns
returns c = bits_all c.args.first c.args.count c.loop-bit.bit c.args.marks.now.items c.loop-bit.marks.items (λ bit within is.
    omega (arith, c.loop-bit-test.false, c.min-end.ensures, c.saturating_add.ensures, c.len.ensures, c.len.type_inv, within, is.1)) c.loop-bit.invariant.short c.loop-bit.invariant.marks
