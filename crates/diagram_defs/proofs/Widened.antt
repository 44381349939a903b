-- Sets of rests with any values before a level.
use Rattle.std.proofs.Common.{◌≡◌, ℕ, zero, suc, ◌+◌, ◌-◌, ◌≤◌, ◌<◌, Bool, ◌&&◌, List, ◌∷◌, length, get_or, drop, replicate, refl, sym, ap, ◌∙◌, subst, arith}
use Rattle.std.proofs.lemmas.List.{get_or-replicate, length-replicate, drop-drop}
use Rattle.std.proofs.lemmas.Bool.{and_parts}
use Rattle.diagram_defs.specs.Rests.{is_rest}
use Rattle.diagram_defs.specs.Diagrams.{Diagram, IsPool, IsNumberFor, AreRests, AreKidsFor}
use Rattle.diagram_defs.specs.Sets.{full_set, widened_set}
use Rattle.diagram_defs.specs.Parts.{IsPartOf}
use Rattle.diagram_defs.proofs.Guards.{guards, guards_second}
use Rattle.diagram_defs.proofs.Listed.{is_rest-drop}
use Rattle.diagram_defs.proofs.Growth.{IsNumberFor_same}
use Rattle.diagram_defs.proofs.Steps.{rest_behind, value_parts}

-- any values before a level
module _ (old : Diagram) (pool : IsPool old) (from : ℕ) (set : List ℕ → Bool) (fits : from ≤ length old.arities) where
  pub AreRests_widened : (level : ℕ) → AreRests old level (widened_set old level from set)
  AreRests_widened level = record { each = λ rest e. (and_parts _ _ e).0 }

  pub widened_behind : (level v : ℕ) (rest : List ℕ) → level < from → v < get_or old.arities level 0 → widened_set old (level + 1) from set rest ≡ widened_set old level from set (v ∷ rest)
  widened_behind level v rest before low =
      let inside : level < length old.arities = omega arith in
      let steps : from - level ≡ suc (from - (level + 1)) = omega arith in
      let full = rest_behind old.arities level inside v rest low in
      λ i. (sym full) i && set (ap (λ (k : ℕ). drop k (v ∷ rest)) (sym steps) i)

  pub widened_up : (k level : ℕ) (l : ℕ) (part : List ℕ → Bool) → level + k ≤ from → IsPartOf (length old.arities) (level + k) (widened_set old (level + k) from set) l part → IsPartOf (length old.arities) level (widened_set old level from set) l part
  widened_up zero level l part below p =
      let same : level + 0 ≡ level = omega arith in
      subst (λ (n : ℕ). IsPartOf (length old.arities) n (widened_set old n from set) l part) same p
  widened_up (suc k) level l part below p =
      let same : level + suc k ≡ level + 1 + k = omega arith in
      let inside : level < length old.arities = omega arith in
      let positive = pool.arities.low level inside in
      let further = widened_up k (level + 1) l part (omega arith) (subst (λ (n : ℕ). IsPartOf (length old.arities) n (widened_set old n from set) l part) same p) in
      value_parts level (widened_set old level from set) (length old.arities) (length old.arities) 0 (widened_set old (level + 1) from set) refl (λ rest. widened_behind level 0 rest (omega arith) (omega arith)) l part further

  pub widened_kids : (mid : Diagram) (level n : ℕ) (kids : List ℕ) → mid.arities ≡ old.arities → level < from → kids ≡ replicate (get_or mid.arities level 0) n → IsNumberFor mid (level + 1) (widened_set old (level + 1) from set) n → AreKidsFor mid level (widened_set old level from set) kids
  widened_kids mid level n kids arities before all is =
      let wide = ap length all ∙ length-replicate (get_or mid.arities level 0) n in
      record {
        arity = wide;
        each = λ v low.
            let inside : v < get_or mid.arities level 0 = omega arith in
            let here = ap (λ (ks : List ℕ). get_or ks v 0) all ∙ get_or-replicate (get_or mid.arities level 0) v n 0 inside in
            subst (IsNumberFor mid (level + 1) (λ rest. widened_set old level from set (v ∷ rest))) (sym here) (IsNumberFor_same mid (level + 1) (widened_set old (level + 1) from set) (λ rest. widened_set old level from set (v ∷ rest)) n (λ rest. widened_behind level v rest before (subst (λ (as' : List ℕ). v < get_or as' level 0) arities inside)) is);
      }

-- at the level itself nothing stands before
pub widened_itself : (old : Diagram) (from : ℕ) (set : List ℕ → Bool) → AreRests old from set → (rest : List ℕ) → set rest ≡ widened_set old from from set rest
widened_itself old from set rests rest =
    let none : from - from ≡ 0 = omega arith in
    sym (guards (full_set old from rest) (set rest) (rests.each rest)) ∙ ap (λ (k : ℕ). full_set old from rest && set (drop k rest)) (sym none)

-- any values before a level, and any before an earlier one
pub widened_twice : (d : Diagram) (level from : ℕ) (set : List ℕ → Bool) → level ≤ from → (state : List ℕ) → widened_set d 0 level (widened_set d level from set) state ≡ widened_set d 0 from set state
widened_twice d level from set order state =
    let none : level - 0 ≡ level = omega arith in
    let place : level - 0 + (from - level) ≡ from - 0 = omega arith in
    guards_second (is_rest d.arities state) (is_rest (drop level d.arities) (drop (level - 0) state)) _ _ (λ e. ap (λ (k : ℕ). is_rest (drop level d.arities) (drop k state)) none ∙ is_rest-drop level d.arities state e)
    (ap set (drop-drop (from - level) (level - 0) state ∙ ap (λ (k : ℕ). drop k state) place))
