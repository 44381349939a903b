use Rattle.std.proofs.Common.{◌≡◌, ◌+◌, map, min, sum, take}
use Rattle.net_sizes.specs.Sizes.{part_in}
use Rattle.net_sizes.proofs.sizes.sum_of.Given as goal

abbrev pub invariant-loop-item : goal.invariant-loop-item
invariant-loop-item l = l.total ≡ min l.most (l.first + sum (map (part_in l.counts l.totals) (take l.item-index l.row)))
