use Rattle.std.proofs.Common.{arith}
use Rattle.net_design.proofs.BitCounts.{counted_by_last}
use Rattle.net_design.proofs.wiring.count_bits.Goals as goal

pub returns-clause-count : goal.returns-clause-count
returns-clause-count c s there =
    counted_by_last s c.args.placed.now there c.as_slice-rows.result.now c.as_slice-rows.ensures.items (omega (arith, c.if-len-eq0.false)) _ c.bits.result c.in_ok-count.count
    c.bits.ensures c.in_ok-count.ensures
