-- How deep states nest.
use Rattle.std.proofs.Common.{◌≡◌, ℕ, zero, suc, true, false, ◌||◌, List, [], ◌∷◌, refl, ap, ◌∙◌}
use Rattle.std.specs.List.{list_any}
use Rattle.script_defs.specs.World.{World}
use Rattle.script_defs.specs.PowerStateSteps.{named_states, nests_deeper}

-- a state that names no state is 1 deep
pub names_none : (w : World) (n : ℕ) (p : List ℕ × List ℕ) → named_states w p ≡ [] → nests_deeper w (suc n) p ≡ false
names_none w n p none = ap (list_any (nests_deeper w n)) none

-- one that names a state of depth n alone is one deeper
pub names_one : (w : World) (n : ℕ) (p q : List ℕ × List ℕ) → named_states w p ≡ q ∷ [] → nests_deeper w n q ≡ false → nests_deeper w (suc n) p ≡ false
names_one w n p q one shallow = ap (list_any (nests_deeper w n)) one ∙ ap (λ b. b || false) shallow

-- one that names itself nests deeper than any number
pub names_itself : (w : World) (p : List ℕ × List ℕ) → named_states w p ≡ p ∷ [] → (n : ℕ) → nests_deeper w n p ≡ true
names_itself w p itself zero = refl
names_itself w p itself (suc n) = ap (list_any (nests_deeper w n)) itself ∙ ap (λ b. b || false) (names_itself w p itself n)
