-- Names of states, keys and faults that were worked out by hand.
use Rattle.std.proofs.Common.{◌≡◌, true, false, List, [], ◌∷◌, Some, None, codes, refl, ◌∙◌}
use Rattle.list_defs.specs.Members.{same_name}
use Rattle.pw_defs.specs.declared.conditions.Cond.TheVariants.{On as IsOn}
use Rattle.pw_defs.specs.declared.faults.TermFault.TheVariants.{U9}
use Rattle.pw_defs.specs.declared.terms.Term.{Term}
use Rattle.pw_defs.specs.declared.terms.Term.TheVariants.{Is, On, Any}
use Rattle.pw_defs.specs.declared.terms.TermNames.{TermNames}
use Rattle.power_states.specs.TermMeaning.{any, no_state, part, faulty, state}
use Rattle.state_conditions.specs.Faults.{HasFault}
use Rattle.state_conditions.specs.Functions.{has_functions}
use Rattle.state_conditions.specs.Keys.{key_of}
use Rattle.state_conditions.proofs.FunctionLemmas.{names_any, names_on}

-- `a` in state `bc` and `ab` in state `c` have two keys
pub keys_apart : same_name (key_of (codes "a") (codes "bc")) (key_of (codes "ab") (codes "c")) ≡ false
unfolding key_of
keys_apart = refl

-- a power and no ground, and one state
abbrev names : TermNames
names = record { power = Some 3; ground = None; states = record { object = codes "SA"; state = codes "up"; cond = IsOn 3 } ∷ [] }

-- an expression of the power has its function, one of the ground hasn't
pub has_power : has_functions names (On true) ≡ true
has_power = names_on names true

pub has_no_ground : has_functions names (Any (On true ∷ On false ∷ [])) ≡ false
has_no_ground = names_any names (On true ∷ On false ∷ []) ∙ (simp names_on)

-- the fault is the first state that isn't there
abbrev parts : List Term
parts = Is (codes "SA") (codes "up") ∷ Is (codes "SA") (codes "low") ∷ Is (codes "SB") (codes "up") ∷ []

pub first_absent : HasFault names (Any parts) (U9 (codes "low"))
first_absent =
    any parts _
    (part _ _ (IsOn 3) _ (state (codes "SA") (codes "up") (IsOn 3) refl)
    (faulty _ (Is (codes "SB") (codes "up") ∷ []) (codes "low") (no_state (codes "SA") (codes "low") refl)))
