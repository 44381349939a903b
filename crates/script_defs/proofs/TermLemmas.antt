-- The states and functions that the forms of a term name.
use Rattle.std.proofs.Common.{◌≡◌, ℕ, Bool, List, [], ◌∷◌, sym, ap, ◌∙◌}
use Rattle.pw_defs.specs.declared.terms.Term.TheOpen.{Term-F}
use Rattle.pw_defs.specs.declared.terms.Term.TheFolds.{fold-roll-Term}
use Rattle.pw_defs.specs.declared.terms.Term.TheVariants.{Is, Volt, rolls-Is, rolls-Volt}
use Rattle.pw_defs.specs.declared.values.Value.{Value}
use Rattle.script_defs.specs.Namings.{states_in, states_in_at}

-- a named state names itself
pub states_of_is : (left state : List ℕ) → states_in (Is left state) ≡ (left, state) ∷ []
unfolding states_in
states_of_is left state = ap states_in (sym (rolls-Is left state)) ∙ fold-roll-Term (List (List ℕ × List ℕ)) states_in_at (Term-F.Is left state)

-- the value of a function names no state
pub states_of_volt : (power : Bool) (value : Value) → states_in (Volt power value) ≡ []
unfolding states_in
states_of_volt power value = ap states_in (sym (rolls-Volt power value)) ∙ fold-roll-Term (List (List ℕ × List ℕ)) states_in_at (Term-F.Volt power value)
