use Rattle.std.proofs.Common.{◌≡◌, ◌≤◌, ◌+◌, drop}
use Rattle.std.specs.Prelude.{min, sum_by}
use Rattle.checks.proofs.report.passed.Given as goal

-- those so far and those that are left are all
abbrev pub invariant-loop-unit : goal.invariant-loop-unit
invariant-loop-unit l =
    (min (l.count + sum_by (λ u. u.passed) (drop l.unit-index l.units)) 4294967295 ≡ min (sum_by (λ u. u.passed) l.units) 4294967295) × (l.count ≤ 4294967295)
