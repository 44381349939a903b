-- All states, and the legal ones among them.
use Rattle.std.specs.Prelude.{◌≡◌, ℕ, ◌*◌, Bool, true, List, [], ◌∷◌, length, map, filter, slice_index_or}
use Rattle.std.specs.List.{AllZip, list_all, flat_map}
use Rattle.pw_defs.specs.declared.values.Value.{Value}
use Rattle.pw_defs.specs.declared.values.Value.TheVariants.{Off}
use Rattle.pw_defs.specs.declared.conditions.Cond.{Cond}
use Rattle.list_defs.specs.Members.{IsIn}
use Rattle.supply_defs.specs.Conditions.{holds}

-- the value of a supply in a state, which has one for each supply in order
abbrev pub value_in : List Value → ℕ → Value
value_in state supply = slice_index_or state supply Off

-- every way to give each supply one of its values, in order
abbrev pub all_states : List (List Value) → List (List Value)
all_states [] = [] ∷ []
all_states (values ∷ lists) = flat_map (λ v. map (λ rest. v ∷ rest) (all_states lists)) values

-- whether all of the conditions hold in a state
abbrev pub meets : List Cond → List Value → Bool
meets conds state = list_all (holds (value_in state)) conds

-- the states in which all conditions hold
abbrev pub legal_states : List (List Value) → List Cond → List (List Value)
legal_states lists conds = filter (meets conds) (all_states lists)

-- a legal state has for each supply one of its values, and all conditions hold in it
abbrev pub IsLegal : List (List Value) → List Cond → List Value → Type 0
IsLegal lists conds state = AllZip IsIn state lists × (meets conds state ≡ true)

-- how many states there are
abbrev pub state_count : List (List Value) → ℕ
state_count [] = 1
state_count (values ∷ lists) = length values * state_count lists
