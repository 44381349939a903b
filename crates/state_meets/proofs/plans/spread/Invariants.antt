use Rattle.std.proofs.Common.{◌≡◌, map, take, length}
use Rattle.state_meets.specs.Gathered.{padded}
use Rattle.state_meets.specs.Planned.{IsSpread}
use Rattle.state_meets.proofs.plans.spread.Given as goal

abbrev pub invariant-loop-local : goal.invariant-loop-local
invariant-loop-local l = record {
  size : length l.begun.items ≡ l.row.count;
  spread : IsSpread l.pool (take l.local-index l.sets) (padded l.row.before (map (λ numbers. numbers.items) l.begun.items) l.row.behind);
}
