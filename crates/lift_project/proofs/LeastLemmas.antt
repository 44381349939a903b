-- How the least state of a set begins.
use Rattle.std.proofs.Common.{◌≡◌, ◌≢◌, ℕ, ◌<◌, true, ◌⊎◌, List, [], ◌∷◌, ◌++◌, refl, sym, ap, ◌∙◌, subst, inl, inr, append_assoc, append-nil}
use Rattle.std.specs.declared.cmp.Ordering.TheVariants.{Less, Greater}
use Rattle.std.proofs.lemmas.Bool.{cases_order, eqb-true, false≢true}
use Rattle.diagram_defs.specs.Diagrams.{Shape, kid, member}
use Rattle.diagram_defs.specs.Diagrams.IsKid.{whole}
use Rattle.diagram_defs.proofs.Meaning.{member-empty}
use Rattle.diagram_defs.specs.States.{state_cmp}
use Rattle.diagram_defs.proofs.StateOrder.{cmp_front, cmp_itself, cmp_above}

-- the least rest of a set goes on behind a front: each other rest that begins otherwise comes later
pub record LeadsLeast (nodes : List Shape) (whole n : ℕ) (front : List ℕ) : Type 0 where
  pub leads : (rest : List ℕ) → member nodes whole (front ++ rest) ≡ member nodes n rest
  pub beats : (y : List ℕ) → member nodes whole y ≡ true → ((rest : List ℕ) × (y ≡ front ++ rest) × (member nodes n rest ≡ true)) ⊎ ((z : List ℕ) → state_cmp y (front ++ z) ≡ Greater)

module _ (nodes : List Shape) (whole : ℕ) where
  pub LeadsLeast_start : LeadsLeast nodes whole whole []
  LeadsLeast_start = record { leads = λ rest. refl; beats = λ y is. inl (y, refl, is) }

  pub LeadsLeast_more : (n v : ℕ) (front : List ℕ) → LeadsLeast nodes whole n front → n ≢ 1 → ((w : ℕ) → w < v → kid nodes n w ≡ 0) → LeadsLeast nodes whole (kid nodes n v) (front ++ v ∷ [])
  LeadsLeast_more n v front before inner least = record {
    leads = λ rest. ap (member nodes whole) (append_assoc front (v ∷ []) rest) ∙ before.leads (v ∷ rest);
    beats = λ y is. elim (before.beats y is) [
      | inl on ↦ follow y on.0 on.1 on.2
      | inr later ↦ inr (λ z. ap (state_cmp y) (append_assoc front (v ∷ []) z) ∙ later (v ∷ z))
    ];
  }
    where
      follow : (y rest : List ℕ) → y ≡ front ++ rest → member nodes n rest ≡ true → ((further : List ℕ) × (y ≡ (front ++ v ∷ []) ++ further) × (member nodes (kid nodes n v) further ≡ true)) ⊎ ((z : List ℕ) → state_cmp y ((front ++ v ∷ []) ++ z) ≡ Greater)
      follow y [] e is = absurd (inner (eqb-true n 1 is))
      follow y (w ∷ rest) e is = elim (cases_order w v) [
        | inl same ↦ inl (rest, e ∙ ap (λ (u : ℕ). front ++ u ∷ rest) same ∙ sym (append_assoc front (v ∷ []) rest), subst (λ (u : ℕ). member nodes (kid nodes n u) rest ≡ true) same is)
        | inr other ↦ elim other [
          | inl less ↦ absurd (false≢true (sym (member-empty nodes rest) ∙ ap (λ (k : ℕ). member nodes k rest) (sym (least w less)) ∙ is))
          | inr more ↦ inr (λ z. ap (λ (x : List ℕ). state_cmp x ((front ++ v ∷ []) ++ z)) e ∙ ap (state_cmp (front ++ w ∷ rest)) (append_assoc front (v ∷ []) z) ∙ cmp_front front (w ∷ rest) (v ∷ z) ∙ cmp_above w v rest z more)
        ]
      ]

  -- at the end the front is the least rest
  pub LeadsLeast_end : (front : List ℕ) → LeadsLeast nodes whole 1 front → (member nodes whole front ≡ true) × ((y : List ℕ) → member nodes whole y ≡ true → state_cmp y front ≢ Less)
  LeadsLeast_end front found =
      (ap (member nodes whole) (sym (append-nil front)) ∙ found.leads [], later)
    where
      later : (y : List ℕ) → member nodes whole y ≡ true → state_cmp y front ≢ Less
      later y is less = elim (found.beats y is) [
        | inl on ↦ last on.0 on.1 on.2
        | inr above ↦ let e = above [] in let f = ap (state_cmp y) (append-nil front) in cc
      ]
        where
          last : (rest : List ℕ) → y ≡ front ++ rest → member nodes 1 rest ≡ true → ⊥
          last [] e m = let same = ap (λ (x : List ℕ). state_cmp x front) (e ∙ append-nil front) in let itself = cmp_itself front in cc
          last (w ∷ rest) e m = false≢true (sym (member-empty nodes rest) ∙ m)
