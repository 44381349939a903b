-- Conditions on supply sets, and when some or none of the legal states shows a condition.
use Rattle.std.specs.Prelude.{◌≡◌, ℕ, true, false, List, [], ◌∷◌, Option, Some, None, map}
use Rattle.pw_defs.specs.declared.conditions.Cond.{Cond}
use Rattle.pw_defs.specs.declared.conditions.Cond.TheVariants.{On, Apart, Not, All, Any}
use Rattle.pw_defs.specs.declared.intent.SupplySet.{SupplySet}
use Rattle.pw_defs.specs.declared.values.Value.{Value}
use Rattle.list_defs.specs.Members.{IsIn}
use Rattle.supply_defs.specs.Conditions.{holds}

-- the supply, if there is one
abbrev pub if_any : Option ℕ → List ℕ
if_any None = []
if_any (Some supply) = supply ∷ []

-- a set is on where its power is on and its ground, if it has one, is on
abbrev pub set_on : SupplySet → Cond
set_on s = All (map On (s.power ∷ if_any s.ground))

-- a set is off where it isn't on
abbrev pub set_off : SupplySet → Cond
set_off s = Not (set_on s)

-- the voltage of a set is its power's: both powers are on, and the second is more than `above` higher than the first
abbrev pub set_above : SupplySet → SupplySet → ℕ → Cond
set_above low high above = Apart low.power high.power above

-- the voltages of two sets differ by more than `above`: the second is the higher one, or the first is
abbrev pub sets_differ : SupplySet → SupplySet → ℕ → Cond
sets_differ a b above = Any (set_above a b above ∷ set_above b a above ∷ [])

-- some of the states shows the condition, where a state gives each supply this value
abbrev pub SomeShows : (List Value → ℕ → Value) → List (List Value) → Cond → Type 0
SomeShows value states cond = (state : List Value) × IsIn state states × (holds (value state) cond ≡ true)

-- none of the states shows the condition
abbrev pub NoneShows : (List Value → ℕ → Value) → List (List Value) → Cond → Type 0
NoneShows value states cond = (state : List Value) → IsIn state states → holds (value state) cond ≡ false
