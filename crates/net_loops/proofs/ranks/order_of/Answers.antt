use Rattle.std.proofs.Common.{◌≡◌, ℕ, length, subst, arith}
use Rattle.std.proofs.lemmas.Option.{slice_get-get_or}
use Rattle.net_loops.specs.Ranks.{AreRankedFirst}
use Rattle.net_loops.proofs.NameRanks.{ranked_more}
use Rattle.net_loops.proofs.RankLemmas.{ranked_so}
use Rattle.net_loops.proofs.ranks.order_of.Goals as goal

pub loop-at-preserved : goal.loop-at-preserved
loop-at-preserved c =
    ranked_more c.args.all.now c.loop-at.order.items _ c.loop-at.at c.loop-at.rank c.in_ok-rank.rank _ c.loop-at.invariant (slice_get-get_or c.args.all.now c.loop-at.at _ c.loop-at-test.true)
    c.in_ok-push.ensures.items (λ a b before place at_a at_b. c.in_ok-rank.ensures a b before place at_a at_b)

pub returns : goal.returns
returns c up =
    let end : c.loop-at.at ≡ length c.args.all.now = omega (arith, c.loop-at-test.false) in
    ranked_so c.args.all.now c.loop-at.order.items c.loop-at.rank up (subst (λ (count : ℕ). AreRankedFirst c.args.all.now c.loop-at.order.items count c.loop-at.rank) end c.loop-at.invariant)
