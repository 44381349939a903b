use Rattle.std.proofs.Common.{rules}
use Rattle.net_hierarchy.proofs.Searching.{search_same, search_starts}
use Rattle.net_hierarchy.proofs.search.start.Goals as goal

pub returns : goal.returns
returns c =
    search_same c.args.types.now c.args.top _ _ _ _ _ _ c.in_ok-marks.ensures c.new.ensures.items (search rules) (search_starts c.args.types.now c.args.top c.len.result)
