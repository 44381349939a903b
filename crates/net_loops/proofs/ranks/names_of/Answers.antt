use Rattle.std.proofs.Common.{◌+◌, refl, take}
use Rattle.std.proofs.lemmas.List.{take_more}
use Rattle.net_loops.proofs.NameRanks.{spelled_more}
use Rattle.net_loops.proofs.ranks.names_of.Goals as goal

pub loop-bit-preserved : goal.loop-bit-preserved
loop-bit-preserved c =
    spelled_more c.args.placed.now (take c.loop-bit.bit-index c.args.bits.now) (take (c.loop-bit.bit-index + 1) c.args.bits.now) _ c.loop-bit.all.items _ _
    (take_more c.args.bits.now c.loop-bit.bit-index _ c.loop-bit-test.true) c.in_ok-push.ensures.items refl
    (λ s there spots rising x at name is. let spelled = c.in_ok-put_bit_name.ensures s there spots rising x at name is in let empty = c.new-name.ensures in cc) c.loop-bit.invariant
