-- Sets that look at one level.
use Rattle.std.proofs.Common.{◌≡◌, ℕ, ◌+◌, ◌-◌, ◌≤◌, ◌<◌, Bool, true, false, ◌&&◌, ◌==◌, if◌then◌else◌, List, [], ◌∷◌, length, get_or, drop, refl, sym, ap, ◌∙◌, subst, inl, inr, arith}
use Rattle.std.specs.Int.{bit_at}
use Rattle.std.proofs.lemmas.List.{get_or-drop}
use Rattle.std.proofs.lemmas.Bool.{and_parts, cases_lt}
use Rattle.std.proofs.Math.Bool.{and-false, and-true}
use Rattle.diagram_defs.proofs.Guards.{guards_second}
use Rattle.diagram_defs.proofs.Widened.{widened_up, widened_itself}
use Rattle.diagram_defs.specs.Rests.{is_rest}
use Rattle.diagram_defs.specs.Diagrams.{Diagram, member, IsPool, IsNumberFor, AreRests, AreKidsFor, Grows}
use Rattle.diagram_defs.specs.Diagrams.IsKid.{empty}
use Rattle.diagram_defs.specs.Sets.{full_set, widened_set, literal_set}
use Rattle.diagram_defs.specs.Parts.{IsPartOf}
use Rattle.diagram_defs.proofs.Listed.{is_rest-drop}
use Rattle.diagram_defs.proofs.Meaning.{member-empty}
use Rattle.diagram_defs.proofs.Growth.{IsNumberFor_same}
use Rattle.diagram_defs.proofs.PartLemmas.{IsPartOf_same}
use Rattle.diagram_defs.proofs.Steps.{rest_behind, rest_past, rest_short}
use Rattle.state_diagrams.specs.Masks.{choice_set, IsPicked, PicksNone}

-- the first value of a rest has its bit
module _ (old : Diagram) (level mask : ℕ) (inside : level < length old.arities) where
  pub AreRests_choice : AreRests old level (choice_set old level mask)
  AreRests_choice = record { each = λ rest e. (and_parts _ _ e).0 }

  pub choice_behind : (v : ℕ) (rest : List ℕ) → v < get_or old.arities level 0 → (bit_at mask v == 1) ≡ true → full_set old (level + 1) rest ≡ choice_set old level mask (v ∷ rest)
  choice_behind v rest low picked =
      sym (rest_behind old.arities level inside v rest low) ∙ sym (and-true (full_set old level (v ∷ rest))) ∙ ap (λ (m : Bool). full_set old level (v ∷ rest) && m) (sym picked)

  choice_not : (v : ℕ) (rest : List ℕ) → (bit_at mask v == 1) ≡ false → choice_set old level mask (v ∷ rest) ≡ false
  choice_not v rest out = ap (λ (m : Bool). full_set old level (v ∷ rest) && m) out ∙ and-false (full_set old level (v ∷ rest))

  pub choice_none : PicksNone mask (get_or old.arities level 0) → (rest : List ℕ) → choice_set old level mask rest ≡ false
  choice_none none [] = ap (λ (m : Bool). m && (bit_at mask 0 == 1)) (rest_short old.arities level inside)
  choice_none none (v ∷ rest) = elim (cases_lt v (get_or old.arities level 0)) [
    | inl low ↦ choice_not v rest (none v low)
    | inr past ↦ ap (λ (m : Bool). m && (bit_at mask v == 1)) (rest_past old.arities level inside v rest past)
  ]

  pub choice_kids : (mid : Diagram) (n : ℕ) (kids : List ℕ) → mid.arities ≡ old.arities → IsPicked mask n (get_or old.arities level 0) kids → IsNumberFor mid (level + 1) (full_set old (level + 1)) n → AreKidsFor mid level (choice_set old level mask) kids
  choice_kids mid n kids arities picked is = record {
    arity = picked.count_is ∙ ap (λ (as' : List ℕ). get_or as' level 0) (sym arities);
    each = λ v low. subst (IsNumberFor mid (level + 1) (λ rest. choice_set old level mask (v ∷ rest))) (sym (picked.each v low)) (kid_for v (let e = picked.count_is in omega arith) (bit_at mask v == 1) refl);
  }
    where
      kid_for : (v : ℕ) → v < get_or old.arities level 0 → (bit : Bool) → (bit_at mask v == 1) ≡ bit → IsNumberFor mid (level + 1) (λ rest. choice_set old level mask (v ∷ rest)) (if bit_at mask v == 1 then n else 0)
      kid_for v low true e =
          subst (λ (b : Bool). IsNumberFor mid (level + 1) (λ rest. choice_set old level mask (v ∷ rest)) (if b then n else 0)) (sym e) (IsNumberFor_same mid (level + 1) (full_set old (level + 1)) (λ rest. choice_set old level mask (v ∷ rest)) n (λ rest. choice_behind v rest low e) is)
      kid_for v low false e =
          subst (λ (b : Bool). IsNumberFor mid (level + 1) (λ rest. choice_set old level mask (v ∷ rest)) (if b then n else 0)) (sym e) (record { in_level = empty refl; same = λ rest. member-empty mid.nodes rest ∙ sym (choice_not v rest e) })

-- the whole states whose end has a picked first value
pub literal_from : (old : Diagram) (level mask : ℕ) (state : List ℕ) → widened_set old 0 level (choice_set old level mask) state ≡ literal_set old level mask state
literal_from old level mask state =
    let whole : level - 0 ≡ level = omega arith in
    let place : level + 0 ≡ level = omega arith in
    ap (λ (k : ℕ). full_set old 0 state && choice_set old level mask (drop k state)) whole ∙ guards_second (full_set old 0 state) (full_set old level (drop level state)) _ _ (is_rest-drop level old.arities state) (ap (λ (v : ℕ). bit_at mask v == 1) (get_or-drop level state 0 0 ∙ ap (λ (k : ℕ). get_or state k 0) place))

-- a part of the choice stands in the literal behind any values of the levels before
pub literal_parts : (old : Diagram) (pool : IsPool old) (level mask : ℕ) → level < length old.arities → (l : ℕ) (part : List ℕ → Bool) → IsPartOf (length old.arities) level (choice_set old level mask) l part → IsPartOf (length old.arities) 0 (literal_set old level mask) l part
literal_parts old pool level mask inside l part p =
    let set = choice_set old level mask in
    let fits : level ≤ length old.arities = omega arith in
    let here = IsPartOf_same (length old.arities) level set (widened_set old level level set) l part (widened_itself old level set (AreRests_choice old level mask inside)) p in
    let zero_more : level ≡ 0 + level = omega arith in
    let up = widened_up old pool level set fits level 0 l part (omega arith) (subst (λ (n : ℕ). IsPartOf (length old.arities) n (widened_set old n level set) l part) zero_more here) in
    IsPartOf_same (length old.arities) 0 (widened_set old 0 level set) (literal_set old level mask) l part (literal_from old level mask) up

-- the choice, widened in a table that has grown
pub literal_widened : (old mid : Diagram) (level mask n : ℕ) → Grows old mid → IsNumberFor mid level (choice_set old level mask) n → (state : List ℕ) → widened_set mid 0 level (member mid.nodes n) state ≡ literal_set old level mask state
literal_widened old mid level mask n g is state =
    let full = ap (λ (arities : List ℕ). is_rest arities state) g.arities in
    let rest = is.same (drop (level - 0) state) in
    let both : widened_set mid 0 level (member mid.nodes n) state ≡ widened_set old 0 level (choice_set old level mask) state = λ i. full i && rest i in
    both ∙ literal_from old level mask state
