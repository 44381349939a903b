-- A condition of places holds in a state exactly where the condition of the supplies does.
use Rattle.std.proofs.Common.{◌≡◌, ℕ, Bool, not, List, [], ◌∷◌, map, slice_index, refl, sym, ap, ◌∙◌, subst}
use Rattle.std.specs.List.{list_all, list_any}
use Rattle.pw_defs.specs.declared.values.Value.{Value}
use Rattle.pw_defs.specs.declared.conditions.Cond.{Cond, roll-Cond, map-Cond}
use Rattle.pw_defs.specs.declared.conditions.Cond.TheOpen.{Cond-F}
use Rattle.pw_defs.specs.declared.conditions.Cond.TheFolds.{fold-roll-Cond, ind-Cond}
use Rattle.supply_defs.specs.Conditions.{holds, holds_at}
use Rattle.supply_defs.specs.Places.{renamed, renamed_at, placed, value_at}
use Rattle.supply_defs.specs.States.{value_in}
use Rattle.supply_defs.proofs.Meaning.{holds_true, holds_is, holds_on, holds_apart, holds_not, holds_all, holds_any}

abbrev HoldsRenamed : (ℕ → ℕ) → (ℕ → Value) → Cond → Type 0
HoldsRenamed name value c = holds value (renamed name c) ≡ holds (λ supply. value (name supply)) c

abbrev RenamedPart : (ℕ → ℕ) → (ℕ → Value) → Type 0
RenamedPart name value = (c : Cond) × HoldsRenamed name value c

abbrev parts_of : (name : ℕ → ℕ) (value : ℕ → Value) → Cond-F (RenamedPart name value) → Cond-F Cond
parts_of name value = map-Cond (RenamedPart name value) Cond (λ e. e.0)

all_renamed : (name : ℕ → ℕ) (value : ℕ → Value) (parts : List (RenamedPart name value))
    → list_all (holds value) (map (renamed name) (map (λ e. e.0) parts))
    ≡ list_all (λ b. b) (map (holds (λ supply. value (name supply))) (map (λ e. e.0) parts))
all_renamed name value [] = refl
all_renamed name value (part ∷ parts) = rw (part.1, all_renamed name value parts) refl

any_renamed : (name : ℕ → ℕ) (value : ℕ → Value) (parts : List (RenamedPart name value))
    → list_any (holds value) (map (renamed name) (map (λ e. e.0) parts))
    ≡ list_any (λ b. b) (map (holds (λ supply. value (name supply))) (map (λ e. e.0) parts))
any_renamed name value [] = refl
any_renamed name value (part ∷ parts) = rw (part.1, any_renamed name value parts) refl

-- one form of a condition, with the claim for its parts
renamed_form : (name : ℕ → ℕ) (value : ℕ → Value) (y : Cond-F (RenamedPart name value))
    → holds value (renamed_at name (map-Cond Cond Cond (renamed name) (parts_of name value y)))
    ≡ holds_at (λ supply. value (name supply)) (map-Cond Cond Bool (holds (λ supply. value (name supply))) (parts_of name value y))
renamed_form name value Cond-F.True = holds_true value
renamed_form name value (Cond-F.Is supply v) = holds_is value (name supply) v
renamed_form name value (Cond-F.On supply) = holds_on value (name supply)
renamed_form name value (Cond-F.Apart low high above) = holds_apart value (name low) (name high) above
renamed_form name value (Cond-F.Not part) = holds_not value (renamed name part.0) ∙ ap not part.1
renamed_form name value (Cond-F.All parts) = holds_all value (map (renamed name) (map (λ e. e.0) parts)) ∙ all_renamed name value parts
renamed_form name value (Cond-F.Any parts) = holds_any value (map (renamed name) (map (λ e. e.0) parts)) ∙ any_renamed name value parts

-- a condition that speaks of other supplies holds where the condition does with their values
pub holds_renamed : (name : ℕ → ℕ) (value : ℕ → Value) (c : Cond) → holds value (renamed name c) ≡ holds (λ supply. value (name supply)) c
unfolding holds renamed
holds_renamed name value = ind-Cond (HoldsRenamed name value) (λ x y same.
    let P : Cond-F Cond → Type 0 = λ z. HoldsRenamed name value (roll-Cond z) in
    let z : Cond-F Cond = parts_of name value y in
    subst P same (ap (holds value) (fold-roll-Cond Cond (renamed_at name) z) ∙ renamed_form name value y
    ∙ sym (fold-roll-Cond Bool (holds_at (λ supply. value (name supply))) z)))

-- a condition of places holds in a state exactly where the condition holds of the supplies
pub holds_placed : (places : List ℕ) (state : List Value) (c : Cond) → holds (value_in state) (placed places c) ≡ holds (value_at places state) c
holds_placed places state c = holds_renamed (slice_index places) (value_in state) c
