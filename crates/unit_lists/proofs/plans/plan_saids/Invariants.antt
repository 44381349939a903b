use Rattle.std.proofs.Common.{take}
use Rattle.pw_defs.specs.declared.supplies.Said.{Said}
use Rattle.list_defs.specs.Members.{IsIn}
use Rattle.supply_defs.specs.Values.{IsMentioned}
use Rattle.unit_lists.specs.Plans.{IsSaidPlanned, Plans}
use Rattle.unit_lists.proofs.plans.plan_saids.Given as goal

abbrev pub invariant-loop-said : goal.invariant-loop-said
invariant-loop-said l =
    Plans l.supplies l.initial.plan l.plan (λ units. (said : Said) → IsIn said l.saids → IsMentioned l.supplies said.unit l.supply said.value)
    (λ units. (said : Said) → IsIn said (take l.said-index l.saids) → IsSaidPlanned l.supplies units l.plan l.supply said)
