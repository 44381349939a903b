-- Things that are all in a list are no more than the list is long.
use Rattle.std.proofs.Common.{◌≡◌, ℕ, zero, suc, ◌+◌, ◌<◌, ◌≤◌, Bool, true, false, ◌||◌, eqb, List, [], ◌∷◌, length, Some, inl, inr, refl, sym, ap, ◌∙◌, subst, arith}
use Rattle.std.specs.List.{AllByRecursion, IsDistinct, list_any, slice_get}
use Rattle.std.proofs.lemmas.Bool.{eqb-true, or_cases}
use Rattle.std.proofs.lemmas.Map.Steps.{length-le_from_distinct_below}
use Rattle.std.proofs.lemmas.Option.{slice_get_within}
use Rattle.list_defs.specs.Members.{IsIn, HasMoreThan}

-- the place of what is in a list
pub place_of_member : {X : Type 0} (x : X) (xs : List X) → IsIn x xs → (n : ℕ) × (slice_get xs n ≡ Some x)
place_of_member x [] there = absurd there
place_of_member x (y ∷ ys) there = elim there [ inl e ↦ (0, ap Some (sym e)) | inr later ↦ (let found = place_of_member x ys later in (suc found.0, found.1)) ]

-- the places of things in a list
places : {X : Type 0} (all xs : List X) → ((x : X) → IsIn x xs → IsIn x all) → List ℕ
places all [] inside = []
places all (x ∷ xs) inside = (place_of_member x all (inside x (inl refl))).0 ∷ places all xs (λ y there. inside y (inr there))

as_many : {X : Type 0} (all xs : List X) (inside : (x : X) → IsIn x xs → IsIn x all) → length (places all xs inside) ≡ length xs
unfolding places
as_many all [] inside = refl
as_many all (x ∷ xs) inside = ap suc (as_many all xs (λ y there. inside y (inr there)))

-- each place is that of one of the things
of_thing : {X : Type 0} (all xs : List X) (inside : (x : X) → IsIn x xs → IsIn x all) (q : ℕ) → list_any (eqb q) (places all xs inside) ≡ true
    → (x : X) × IsIn x xs × (slice_get all q ≡ Some x)
unfolding places
of_thing all [] inside q there = cc
of_thing {X} all (x ∷ xs) inside q there = by (of_thing all xs (λ y in_rest. inside y (inr in_rest)) q)
  where
    found : (n : ℕ) × (slice_get all n ≡ Some x)
    found = place_of_member x all (inside x (inl refl))

    by : (list_any (eqb q) (places all xs (λ y in_rest. inside y (inr in_rest))) ≡ true → (y : X) × IsIn y xs × (slice_get all q ≡ Some y))
        → (y : X) × IsIn y (x ∷ xs) × (slice_get all q ≡ Some y)
    by rest =
        elim (or_cases (eqb q found.0) (list_any (eqb q) (places all xs (λ y in_rest. inside y (inr in_rest)))) there) [
          | inl here ↦ (x, inl refl, subst (λ n. slice_get all n ≡ Some x) (sym (eqb-true q found.0 here)) found.1)
          | inr later ↦ (let more = rest later in (more.0, inr more.1, more.2))
        ]

-- no thing stands at two places
AreDifferent : {X : Type 0} → List X → Type 0
AreDifferent {X} xs = (i j : ℕ) (x : X) → slice_get xs i ≡ Some x → slice_get xs j ≡ Some x → i ≡ j

none_of : (n : ℕ) (ys : List ℕ) → (list_any (eqb n) ys ≡ true → ⊥) → AllByRecursion (λ y. eqb n y ≡ false) ys
none_of n [] nowhere = tt
none_of n (y ∷ ys) nowhere = each (eqb n y) refl (none_of n ys)
  where
    any_here : eqb n y ≡ true → eqb n y || list_any (eqb n) ys ≡ true
    any_here test = ap (λ b. b || list_any (eqb n) ys) test

    any_later : eqb n y ≡ false → list_any (eqb n) ys ≡ true → eqb n y || list_any (eqb n) ys ≡ true
    any_later test there = ap (λ b. b || list_any (eqb n) ys) test ∙ there

    each : (b : Bool) → eqb n y ≡ b → ((list_any (eqb n) ys ≡ true → ⊥) → AllByRecursion (λ z. eqb n z ≡ false) ys)
        → (eqb n y ≡ false) × AllByRecursion (λ z. eqb n z ≡ false) ys
    each true test rest = absurd (nowhere (any_here test))
    each false test rest = (test, rest (λ there. nowhere (any_later test there)))

distinct_places : {X : Type 0} (all xs : List X) (inside : (x : X) → IsIn x xs → IsIn x all) → AreDifferent xs → IsDistinct eqb (places all xs inside)
unfolding places IsDistinct AreDifferent
distinct_places all [] inside different = tt
distinct_places {X} all (x ∷ xs) inside different = (none_of found.0 (places all xs rest_inside) new, distinct_places all xs rest_inside rest_different)
  where
    found : (n : ℕ) × (slice_get all n ≡ Some x)
    found = place_of_member x all (inside x (inl refl))

    rest_inside : (y : X) → IsIn y xs → IsIn y all
    rest_inside y there = inside y (inr there)

    rest_different : (i j : ℕ) (y : X) → slice_get xs i ≡ Some y → slice_get xs j ≡ Some y → i ≡ j
    rest_different i j y e f = let more : suc i ≡ suc j = different (suc i) (suc j) y e f in cc

    new : list_any (eqb found.0) (places all xs rest_inside) ≡ true → ⊥
    new there =
        let again = of_thing all xs rest_inside found.0 there in
        let here : slice_get all found.0 ≡ Some x = found.1 in
        let here_too : slice_get all found.0 ≡ Some again.0 = again.2 in
        let same : x ≡ again.0 = cc in
        let at = place_of_member again.0 xs again.1 in
        let twice : zero ≡ suc at.0 = different zero (suc at.0) again.0 (ap Some same) at.1 in
        cc

-- Where all things with P are in a list of at most n things, there aren't more than n.
pub few : {X : Type 0} (n : ℕ) (P : X → Type 0) (all : List X) → ((x : X) → P x → IsIn x all) → length all ≤ n → HasMoreThan n P → ⊥
unfolding AreDifferent
few {X} n P all holds short more =
    let enough = length-le_from_distinct_below (places all more.things inside) (length all) (distinct_places all more.things inside more.different) below in
    let count : length (places all more.things inside) ≡ n + 1 = as_many all more.things inside ∙ more.count in
    omega arith
  where
    inside : (x : X) → IsIn x more.things → IsIn x all
    inside x there = holds x (more.each x there)

    below : (q : ℕ) → list_any (eqb q) (places all more.things inside) ≡ true → q < length all
    below q there = let found = of_thing all more.things inside q there in slice_get_within all q found.0 found.2
