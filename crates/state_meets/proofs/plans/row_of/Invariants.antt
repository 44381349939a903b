use Rattle.std.proofs.Common.{◌≤◌, ◌+◌, take, length}
use Rattle.state_meets.specs.Planned.{AreWithin}
use Rattle.state_meets.proofs.plans.row_of.Given as goal

abbrev pub invariant-loop-local : goal.invariant-loop-local
invariant-loop-local l = record {
  low : l.first ≤ length l.pool.arities;
  high : l.last ≤ length l.pool.arities;
  within : AreWithin l.first (l.last + 1) (take l.local-index l.sets);
}
