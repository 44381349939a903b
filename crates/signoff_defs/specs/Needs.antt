-- When a chain needs isolation or level shifting, as conditions on the supplies.
use Rattle.std.specs.Prelude.{ℕ, Bool, true, false, not, ◌&&◌, ◌||◌, List, [], ◌∷◌, ◌++◌, max, if◌then◌else◌}
use Rattle.std.specs.List.{list_any}
use Rattle.pw_defs.specs.declared.conditions.Cond.{Cond}
use Rattle.pw_defs.specs.declared.conditions.Cond.TheVariants.{All, Any}
use Rattle.pw_defs.specs.declared.intent.SupplySet.{SupplySet}
use Rattle.pw_defs.specs.declared.strategies.Act.{Act}
use Rattle.pw_defs.specs.declared.strategies.Act.TheVariants.{Iso, Shift}
use Rattle.domain_defs.specs.Sets.{shifts}
use Rattle.supply_defs.specs.SetConditions.{set_on, set_off, set_above, sets_differ}
use Rattle.signoff_defs.specs.Crossings.{Crossing, shifts_up, shifts_down, forbids_shifting}

-- a set is off while another one is on
abbrev pub off_while_on : SupplySet → SupplySet → Cond
off_while_on first second = All (set_off first ∷ set_on second ∷ [])

-- two sets are on, and their voltages differ by more than a threshold either way
abbrev pub are_apart : ℕ → SupplySet → SupplySet → Cond
are_apart above a b = All (set_on a ∷ set_on b ∷ sets_differ a b above ∷ [])

-- Isolation is needed where the driver's set is off while the receiver's is on.
abbrev pub isolation_need : Crossing → Cond
isolation_need c = off_while_on c.driver c.receiver

abbrev pub threshold_in : Act → ℕ
threshold_in (Iso mode supply) = 0
threshold_in (Shift mode up down threshold input output) = threshold

-- the greatest threshold of the shifting strategies, else 0
abbrev pub greatest_threshold : List Act → ℕ
greatest_threshold [] = 0
greatest_threshold (s ∷ ss) = if shifts s then max (threshold_in s) (greatest_threshold ss) else greatest_threshold ss

abbrev pub threshold : Crossing → ℕ
threshold c = greatest_threshold c.strategies

-- A direction is needed where no strategy has -no_shift, and either there is no shifting strategy or one admits it.
abbrev pub needs_direction : (Act → Bool) → List Act → Bool
needs_direction admits strategies = not (list_any forbids_shifting strategies) && (not (list_any shifts strategies) || list_any admits strategies)

abbrev pub cond_if : Bool → Cond → List Cond
cond_if true cond = cond ∷ []
cond_if false cond = []

-- Shifting is needed where both ends are on, and differ by more than the threshold in a needed direction.
abbrev pub shifting_need : Crossing → Cond
shifting_need c = All (
    set_on c.driver
    ∷ set_on c.receiver
    ∷ Any (
    cond_if (needs_direction shifts_up c.strategies) (set_above c.driver c.receiver (threshold c))
    ++ cond_if (needs_direction shifts_down c.strategies) (set_above c.receiver c.driver (threshold c))
    )
    ∷ []
    )
