use Rattle.std.proofs.Common.{◌≡◌, map, length, replicate}
use Rattle.bench.proofs.joined.supplies.Given as goal

abbrev pub invariant-loop : goal.invariant-loop
invariant-loop l = map length l.lists.items ≡ replicate l.counter 2
