use Rattle.net_loops.proofs.MarkLemmas.{ranked_next}
use Rattle.net_loops.proofs.loops.marked_ranks.Goals as goal

pub loop-item-preserved : goal.loop-item-preserved
loop-item-preserved c =
    ranked_next c.args.order.now c.loop-item.item-index _ c.args.marks.now c.loop-item.ranks.items c.rank_if.new.ranks.items c.loop-item-test.true c.rank_if.ensures c.loop-item.invariant
