-- What two sets of different tables have in common, from the first levels down.
use Rattle.std.proofs.Common.{◌≡◌, ◌≢◌, ℕ, zero, suc, ◌+◌, ◌-◌, ◌≤◌, ◌<◌, Bool, true, false, ◌&&◌, List, [], ◌∷◌, drop, length, get_or, refl, sym, ap, ◌∙◌, subst, inl, inr, arith}
use Rattle.std.proofs.Math.Bool.{and-false}
use Rattle.std.proofs.lemmas.Bool.{cases_order, cases_lt, and_parts, eqb-true, false≢true, false_from_ne_true}
use Rattle.std.specs.declared.cmp.Ordering.TheVariants.{Less}
use Rattle.diagram_defs.specs.Diagrams.{Diagram, kid, member, IsSet, IsPool}
use Rattle.diagram_defs.specs.States.{state_cmp}
use Rattle.diagram_defs.proofs.Meaning.{member-empty, inner_number}
use Rattle.diagram_defs.proofs.StateOrder.{cmp_behind, cmp_above, cmp_itself}
use Rattle.diagram_defs.proofs.Steps.{member_rest, rest_past}
use Rattle.state_meets.specs.declared.commons.Meeting.{Meeting}
use Rattle.state_meets.specs.Common.{is_in_both, AreDisjoint, IsLeastRest, IsMeetingBehind}

module _ (first second : Diagram) (begins : ℕ) (at : Meeting) where
  -- nothing is in an empty set
  pub disjoint_first : at.first ≡ 0 → AreDisjoint first second begins at
  disjoint_first z rest =
      ap (λ (b : Bool). b && member second.nodes at.second (drop (begins - at.level) rest)) (ap (λ (n : ℕ). member first.nodes n rest) z ∙ member-empty first.nodes rest)

  pub disjoint_second : at.second ≡ 0 → AreDisjoint first second begins at
  disjoint_second z rest =
      ap (λ (b : Bool). member first.nodes at.first rest && b) (ap (λ (n : ℕ). member second.nodes n (drop (begins - at.level) rest)) z ∙ member-empty second.nodes (drop (begins - at.level) rest)) ∙ and-false (member first.nodes at.first rest)

  -- no value has a rest in both behind it
  pub disjoint_behind : IsPool first → at.level < length first.arities → IsSet first at.level at.first → ((v : ℕ) → v < get_or first.arities at.level 0 → (rest : List ℕ) → is_in_both first second begins at (v ∷ rest) ≡ false) → AreDisjoint first second begins at
  disjoint_behind pool inside is none [] =
      false_from_ne_true (is_in_both first second begins at []) (λ e. inner_number first at.level at.first inside is (eqb-true at.first 1 (and_parts _ _ e).0))
  disjoint_behind pool inside is none (v ∷ rest) = elim (cases_lt v (get_or first.arities at.level 0)) [
    | inl low ↦ none v low rest
    | inr past ↦ false_from_ne_true (is_in_both first second begins at (v ∷ rest)) (λ e. false≢true (sym (rest_past first.arities at.level inside v rest past) ∙ member_rest first.arities first.nodes pool.nodes (length first.nodes) at.level at.first (v ∷ rest) is (and_parts _ _ e).0))
  ]

  -- the least rest behind the first value that has one
  pub least_more : at.level < length first.arities → IsSet first at.level at.first → (v : ℕ) (next : Meeting) (rest : List ℕ) → IsMeetingBehind first second begins at v next → ((w : ℕ) → w < v → (further : List ℕ) → is_in_both first second begins at (w ∷ further) ≡ false)
      → IsLeastRest first second begins next rest → IsLeastRest first second begins at (v ∷ rest)
  least_more inside is v next rest down none found = record { holds = sym (down.same rest) ∙ found.holds; least = later }
    where
      later : (y : List ℕ) → is_in_both first second begins at y ≡ true → state_cmp y (v ∷ rest) ≢ Less
      later [] e less = inner_number first at.level at.first inside is (eqb-true at.first 1 (and_parts _ _ e).0)
      later (w ∷ further) e less = elim (cases_order w v) [
        | inl same ↦
            let here = subst (λ (u : ℕ). is_in_both first second begins at (u ∷ further) ≡ true) same e in
            let order = sym (cmp_behind v further rest) ∙ ap (λ (u : ℕ). state_cmp (u ∷ further) (v ∷ rest)) (sym same) ∙ less in
            found.least further (down.same further ∙ here) order
        | inr other ↦ elim other [
          | inl low ↦ false≢true (sym (none w low further) ∙ e)
          | inr more ↦ let above = cmp_above w v further rest more in cc
        ]
      ]

-- behind the last level
module _ (first second : Diagram) (begins : ℕ) (at : Meeting) where
  no_more : (v : ℕ) (rest : List ℕ) → at.first ≡ 1 → is_in_both first second begins at (v ∷ rest) ≡ false
  no_more v rest one =
      ap (λ (b : Bool). b && member second.nodes at.second (drop (begins - at.level) (v ∷ rest))) (ap (λ (n : ℕ). member first.nodes n (v ∷ rest)) one ∙ member-empty first.nodes rest)

  nothing_left : (k : ℕ) → drop {A = ℕ} k [] ≡ []
  nothing_left zero = refl
  nothing_left (suc k) = refl

  pub no_last : at.first ≡ 1 → at.second ≢ 1 → AreDisjoint first second begins at
  no_last one other [] = false_from_ne_true (is_in_both first second begins at []) (λ e. other (eqb-true at.second 1 (ap (member second.nodes at.second) (sym (nothing_left (begins - at.level))) ∙ (and_parts _ _ e).1)))
  no_last one other (v ∷ rest) = no_more v rest one

  pub last_least : at.first ≡ 1 → at.second ≡ 1 → IsLeastRest first second begins at []
  last_least one whole = record { holds = here; least = later }
    where
      here : is_in_both first second begins at [] ≡ true
      here = ap (λ (rest : List ℕ). member first.nodes at.first [] && member second.nodes at.second rest) (nothing_left (begins - at.level)) ∙ (λ i. member first.nodes (one i) [] && member second.nodes (whole i) [])

      later : (y : List ℕ) → is_in_both first second begins at y ≡ true → state_cmp y [] ≢ Less
      later [] e less = let itself = cmp_itself [] in cc
      later (v ∷ rest) e less = false≢true (sym (no_more v rest one) ∙ e)

-- before its level a set stays whole, and from it on its child is taken
module _ (second : Diagram) (begins level n v : ℕ) (rest : List ℕ) where
  pub stays : level < begins → member second.nodes n (drop (begins - (level + 1)) rest) ≡ member second.nodes n (drop (begins - level) (v ∷ rest))
  stays before =
      let more : begins - level ≡ suc (begins - (level + 1)) = omega arith in
      ap (λ (k : ℕ). member second.nodes n (drop k (v ∷ rest))) (sym more)

  pub goes_on : begins ≤ level → member second.nodes (kid second.nodes n v) (drop (begins - (level + 1)) rest) ≡ member second.nodes n (drop (begins - level) (v ∷ rest))
  goes_on begun =
      let none : begins - level ≡ 0 = omega arith in
      let further : begins - (level + 1) ≡ 0 = omega arith in
      ap (λ (k : ℕ). member second.nodes (kid second.nodes n v) (drop k rest)) further ∙ ap (λ (k : ℕ). member second.nodes n (drop k (v ∷ rest))) (sym none)
