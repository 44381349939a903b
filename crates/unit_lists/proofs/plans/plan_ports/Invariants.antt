use Rattle.std.proofs.Common.{ℕ, take}
use Rattle.list_defs.specs.Members.{IsIn}
use Rattle.supply_defs.specs.Values.{IsPortWithin}
use Rattle.unit_lists.specs.Plans.{IsPortPlanned, Plans}
use Rattle.unit_lists.proofs.plans.plan_ports.Given as goal

abbrev pub invariant-loop-port : goal.invariant-loop-port
invariant-loop-port l =
    Plans l.supplies l.initial.plan l.plan (λ units. (port : ℕ) → IsIn port l.ports → IsPortWithin units l.unit l.inner port)
    (λ units. (port : ℕ) → IsIn port (take l.port-index l.ports) → IsPortPlanned l.supplies units l.plan l.unit l.inner port)
