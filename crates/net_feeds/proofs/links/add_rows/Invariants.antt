use Rattle.std.proofs.Common.{◌≡◌, ◌++◌, take}
use Rattle.net_feeds.specs.LinkNumbers.{links_of_rows}
use Rattle.net_feeds.proofs.links.add_rows.Given as goal

abbrev pub invariant-loop-row : goal.invariant-loop-row
invariant-loop-row l = l.out.items ≡ l.initial.out.items ++ links_of_rows l.instances l.inst (take l.row-index l.rows)
