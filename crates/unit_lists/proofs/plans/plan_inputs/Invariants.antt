use Rattle.std.proofs.Common.{ℕ, take}
use Rattle.list_defs.specs.Members.{IsIn}
use Rattle.supply_defs.specs.Values.{IsNamedInput, IsSwitchOutput}
use Rattle.unit_lists.specs.Plans.{IsInputPlanned, Plans}
use Rattle.unit_lists.proofs.plans.plan_inputs.Given as goal

abbrev pub invariant-loop-input : goal.invariant-loop-input
invariant-loop-input l =
    Plans l.supplies l.initial.plan l.plan
    (λ units. (input : ℕ) → IsIn input l.inputs → IsSwitchOutput l.supplies l.output.unit l.output.supply × IsNamedInput l.supplies l.output.supply input)
    (λ units. (input : ℕ) → IsIn input (take l.input-index l.inputs) → IsInputPlanned l.supplies units l.plan l.output.unit l.output.supply input)
