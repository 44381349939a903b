use Rattle.std.proofs.Common.{◌≡◌, drop}
use Rattle.std.specs.List.{find}
use Rattle.supply_defs.specs.Conditions.{holds}
use Rattle.supply_defs.specs.States.{value_in}
use Rattle.checks.specs.LineWatches.{isolation_missing}
use Rattle.checks.proofs.judge.first_shown.Given as goal

-- none so far shows it
abbrev pub invariant-loop-place : goal.invariant-loop-place
invariant-loop-place l =
    find (λ s. holds (value_in s.values) (isolation_missing l.sides.driver l.sides.receiver)) (drop l.place l.states)
    ≡ find (λ s. holds (value_in s.values) (isolation_missing l.sides.driver l.sides.receiver)) l.states
