use Rattle.std.proofs.Common.{List, subst, take, ℕ}
use Rattle.std.proofs.lemmas.List.{take_all}
use Rattle.net_feeds.specs.LeastNames.{IsLeastName, IsLeastOrNone}
use Rattle.net_feeds.proofs.Naming.{least_next}
use Rattle.net_feeds.proofs.names.least_name.Goals as goal

pub loop-bit-preserved : goal.loop-bit-preserved
loop-bit-preserved c s there spots all =
    least_next s spots c.args.bits.now c.loop-bit.bit-index _ c.loop-bit-test.true c.in_ok-name.name (c.in_ok-name.ensures s there spots all) c.loop-bit.least
    c.lesser.result c.lesser.ensures (c.loop-bit.invariant s there spots all)

pub returns-in-Some : goal.returns-in-Some
returns-in-Some c s there spots all =
    subst (λ (bs : List ℕ). IsLeastName s spots bs c.in-Some.name) (take_all c.loop-bit.bit-index c.args.bits.now c.loop-bit-test.false)
    (subst (IsLeastOrNone s spots (take c.loop-bit.bit-index c.args.bits.now)) c.in-Some.is (c.loop-bit.invariant s there spots all))
