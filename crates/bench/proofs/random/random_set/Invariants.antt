use Rattle.std.proofs.Common.{◌≤◌}
use Rattle.diagram_defs.specs.Diagrams.{Grows}
use Rattle.bench.proofs.RowLemmas.{IsRow}
use Rattle.bench.proofs.random.random_set.Given as goal

abbrev pub invariant-loop-level : goal.invariant-loop-level
invariant-loop-level l = record {
  within : l.level ≤ l.levels;
  grows : Grows l.fn.pool l.pool;
  row : IsRow l.pool l.level l.row.items;
}

abbrev pub decreases-loop-level : goal.decreases-loop-level
decreases-loop-level l = l.level
