use Rattle.std.proofs.Common.{◌≡◌, length}
use Rattle.bench.specs.Rows.{ArePicked}
use Rattle.bench.proofs.random.picked.Given as goal

abbrev pub invariant-loop : goal.invariant-loop
invariant-loop l = record {
  count : length l.kids.items ≡ l.counter;
  each : ArePicked l.given l.kids.items;
}
