-- Of names, ranges and lists it can be told whether they are the same, and whether one of a list is such a one.
use Rattle.std.proofs.Common.{◌≡◌, ℕ, Bool, true, false, List, [], ◌∷◌, ◌⊎◌, inl, inr, refl, sym, ◌∙◌, subst}
use Rattle.list_defs.specs.Members.{IsIn, same_name}
use Rattle.list_defs.proofs.NameLemmas.{same_name-equal, same_name-itself}
use Rattle.std.proofs.lemmas.Bool.{false≢true}
use Rattle.text_defs.specs.FirstPlace.{HasPlace, HasNoPlace, IsFirstPlace}
use Rattle.text_defs.proofs.FirstPlaces.{first_or_none}

-- P holds or not
abbrev pub IsTold : Type 0 → Type 0
IsTold P = P ⊎ (¬ P)

unfoldable pub told_not : {P : Type 0} → IsTold P → IsTold (¬ P)
told_not (inl p) = inr (λ n. n p)
told_not (inr n) = inl n

unfoldable pub told_both : {P Q : Type 0} → IsTold P → IsTold Q → IsTold (P × Q)
told_both (inl p) (inl q) = inl (p, q)
told_both (inl p) (inr n) = inr (λ b. n b.1)
told_both (inr n) q = inr (λ b. n b.0)

unfoldable pub told_either : {P Q : Type 0} → IsTold P → IsTold Q → IsTold (P ⊎ Q)
told_either (inl p) q = inl (inl p)
told_either (inr n) (inl q) = inl (inr q)
told_either (inr n) (inr m) = inr (λ b. elim b [ inl p ↦ n p | inr q ↦ m q ])

unfoldable pub told_name : (a b : List ℕ) → IsTold (a ≡ b)
told_name a b = by (same_name a b) refl
  where
    by : (t : Bool) → same_name a b ≡ t → IsTold (a ≡ b)
    by true e = inl (same_name-equal a b e)
    by false e = inr (λ same. false≢true (sym e ∙ subst (λ c. same_name a c ≡ true) same (same_name-itself a)))

-- whether one of a list is such a one
unfoldable pub told_one : {X : Type 0} (P : X → Type 0) → ((x : X) → IsTold (P x)) → (xs : List X) → IsTold ((x : X) × IsIn x xs × P x)
told_one P told [] = inr (λ f. f.1)
told_one {X} P told (x ∷ xs) = by (told x) (told_one P told xs)
  where
    by : IsTold (P x) → IsTold ((y : X) × IsIn y xs × P y) → IsTold ((y : X) × IsIn y (x ∷ xs) × P y)
    by (inl p) rest = inl (x, inl refl, p)
    by (inr n) (inl f) = inl (f.0, inr f.1, f.2)
    by (inr n) (inr m) = inr (λ f. elim f.1 [ inl e ↦ n (subst P e f.2) | inr i ↦ m (f.0, i, f.2) ])

-- whether there is such a place
unfoldable pub told_place : {X : Type 0} (P : List X → X → List X → Type 0) → ((front : List X) (y : X) (rest : List X) → IsTold (P front y rest))
    → (xs : List X) → IsTold (HasPlace P xs)
told_place {X} P told xs = by (first_or_none P told xs)
  where
    by : HasNoPlace P xs ⊎ ((x : X) × IsFirstPlace P xs x) → IsTold (HasPlace P xs)
    by (inl none) = inr (λ h. none h.0 h.1 h.2 h.3 h.4)
    by (inr f) = inl (f.1.before, f.0, f.1.behind, f.1.split, f.1.holds)

-- what the two sides of a sum say of it
abbrev pub is_left : {A B : Type 0} → A ⊎ B → Bool
is_left (inl a) = true
is_left (inr b) = false

pub left_of : {A B : Type 0} (r : A ⊎ B) → is_left r ≡ true → A
left_of (inl a) e = a
left_of (inr b) e = absurd (false≢true e)
