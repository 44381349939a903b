-- The first state that shows a condition is the least one that does.
use Rattle.std.specs.Prelude.{◌≡◌, true, List, Some}
use Rattle.std.specs.List.{find}
use Rattle.pw_defs.specs.declared.values.Value.{Value}
use Rattle.pw_defs.specs.declared.conditions.Cond.{Cond}
use Rattle.list_defs.specs.Members.{IsIn}
use Rattle.list_defs.specs.Orders.{IsLeast, IsRising}
use Rattle.pw_defs.specs.Values.{state_cmp}
use Rattle.supply_defs.specs.Conditions.{holds}
use Rattle.supply_defs.specs.States.{value_in}

-- Among states in rising order the first in which a condition holds is the least of those in which it does.
abbrev pub FirstIsLeast : Type 0
FirstIsLeast = (states : List (List Value)) (cond : Cond) (first : List Value) → IsRising state_cmp states
    → find (λ s. holds (value_in s) cond) states ≡ Some first
    → IsLeast state_cmp (λ s. IsIn s states × (holds (value_in s) cond ≡ true)) first
