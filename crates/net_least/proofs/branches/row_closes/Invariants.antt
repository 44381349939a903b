use Rattle.std.proofs.Common.{drop}
use Rattle.net_least.specs.Recursion.{RowCloses}
use Rattle.net_least.proofs.branches.row_closes.Given as goal

abbrev pub invariant-loop-item : goal.invariant-loop-item
invariant-loop-item l = RowCloses l.row l.marks l.number → RowCloses (drop l.item-index l.row) l.marks l.number
