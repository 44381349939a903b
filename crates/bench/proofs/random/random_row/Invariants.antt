use Rattle.std.proofs.Common.{◌+◌}
use Rattle.diagram_defs.specs.Diagrams.{Grows}
use Rattle.bench.proofs.RowLemmas.{IsRow}
use Rattle.bench.proofs.random.random_row.Given as goal

abbrev pub invariant-loop : goal.invariant-loop
invariant-loop l = record {
  grows : Grows l.fn.pool l.pool;
  row : IsRow l.pool l.level l.row.items;
  below : IsRow l.pool (l.level + 1) l.below;
}
