use Rattle.std.proofs.Common.{take}
use Rattle.net_loops.specs.Least.{AreMarkedRanks}
use Rattle.net_loops.proofs.loops.marked_ranks.Given as goal

abbrev pub invariant-loop-item : goal.invariant-loop-item
invariant-loop-item l = AreMarkedRanks (take l.item-index l.order) l.marks l.ranks.items
