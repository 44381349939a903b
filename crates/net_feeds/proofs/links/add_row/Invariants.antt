use Rattle.std.proofs.Common.{◌≡◌, ◌++◌, map}
use Rattle.std.specs.List.{range_with_len}
use Rattle.net_feeds.proofs.RowLinks.{link_of_row}
use Rattle.net_feeds.proofs.links.add_row.Given as goal

abbrev pub invariant-loop-more : goal.invariant-loop-more
invariant-loop-more l = l.out.items ≡ l.initial.out.items ++ map (link_of_row l.instances l.inst l.row) (range_with_len 0 l.more)
