use Rattle.std.proofs.Common.{◌≡◌, ◌<◌, ℕ, Some, slice_get}
use Rattle.pw_defs.specs.declared.supplies.Supply.{Supply}
use Rattle.unit_lists.specs.Plans.{Always, IsSupplyPlanned, Plans}
use Rattle.unit_lists.proofs.plans.plan_supplies.Given as goal

abbrev pub invariant-loop-number : goal.invariant-loop-number
invariant-loop-number l =
    Plans l.supplies l.initial.plan l.plan Always
    (λ units. (n : ℕ) → n < l.number → (s : Supply) → slice_get l.supplies n ≡ Some s → IsSupplyPlanned l.supplies units l.plan n s)
