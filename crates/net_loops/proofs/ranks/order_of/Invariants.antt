use Rattle.net_loops.specs.Ranks.{AreRankedFirst}
use Rattle.net_loops.proofs.ranks.order_of.Given as goal

abbrev pub invariant-loop-at : goal.invariant-loop-at
invariant-loop-at l = AreRankedFirst l.all l.order.items l.at l.rank
