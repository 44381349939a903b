use Rattle.std.proofs.Common.{◌≡◌, ◌<◌, ℕ, Some, slice_get}
use Rattle.pw_defs.specs.declared.intent.Unit.{Unit as PowerUnit}
use Rattle.unit_lists.specs.Plans.{IsUnitPlanned, Plans}
use Rattle.unit_lists.proofs.plans.plan_units.Given as goal

abbrev pub invariant-loop-inner : goal.invariant-loop-inner
invariant-loop-inner l =
    Plans l.supplies l.initial.plan l.plan (λ all. all ≡ l.units)
    (λ all. (n : ℕ) → n < l.inner → (u : PowerUnit) → slice_get l.units n ≡ Some u → IsUnitPlanned l.supplies all l.plan n u)
