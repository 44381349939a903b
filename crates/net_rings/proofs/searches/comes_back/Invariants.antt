use Rattle.std.proofs.Common.{◌+◌}
use Rattle.net_rings.specs.Search.{AreBelow, IsSearch}
use Rattle.net_rings.proofs.searches.comes_back.Given as goal

abbrev pub invariant-loop-done : goal.invariant-loop-done
invariant-loop-done l = record {
  below : AreBelow (l.mark + 1) l.marks;
  search : IsSearch l.rows l.from l.mark l.marks l.row.items l.done;
}
