use Rattle.std.proofs.Common.{take}
use Rattle.net_sizes.specs.Depths.{IsDeepest, depth_in}
use Rattle.net_sizes.proofs.depths.deepest.Given as goal

abbrev pub invariant-loop-item : goal.invariant-loop-item
invariant-loop-item l = IsDeepest (depth_in l.depths l.most) (take l.item-index l.row) l.depth
