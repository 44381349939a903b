-- What the first place of a test is, and what lists that answer one another place by place have.
use Rattle.std.proofs.Common.{◌≡◌, ℕ, zero, suc, Bool, true, false, cond, List, [], ◌∷◌, Option, Some, None, option_map, slice_get, refl, sym, ap, ◌∙◌, subst}
use Rattle.std.specs.List.{AllZip, find}
use Rattle.std.proofs.lemmas.Option.{same_Some}
use Rattle.list_defs.specs.Members.{place_of}

-- the second of two lists at a place answers the first there
pub left_of : {A B : Type 0} (R : A → B → Type 0) (xs : List A) (ys : List B) → AllZip R xs ys → (n : ℕ) (y : B) → slice_get ys n ≡ Some y
    → (x : A) × (slice_get xs n ≡ Some x) × R x y
left_of R [] [] zip n y e = cc
left_of R [] (y ∷ ys) zip n z e = absurd zip
left_of R (x ∷ xs) [] zip n z e = absurd zip
left_of R (x ∷ xs) (y ∷ ys) zip zero z e = (x, refl, subst (R x) (same_Some y z e) zip.0)
left_of R (x ∷ xs) (y ∷ ys) zip (suc n) z e = left_of R xs ys zip.1 n z e

pub right_of : {A B : Type 0} (R : A → B → Type 0) (xs : List A) (ys : List B) → AllZip R xs ys → (n : ℕ) (x : A) → slice_get xs n ≡ Some x
    → (y : B) × (slice_get ys n ≡ Some y) × R x y
right_of R [] [] zip n x e = cc
right_of R [] (y ∷ ys) zip n z e = absurd zip
right_of R (x ∷ xs) [] zip n z e = absurd zip
right_of R (x ∷ xs) (y ∷ ys) zip zero z e = (y, refl, subst (λ w. R w y) (same_Some x z e) zip.0)
right_of R (x ∷ xs) (y ∷ ys) zip (suc n) z e = right_of R xs ys zip.1 n z e

-- what stands at the first place that passes a test passes it, and is what is found
pub at_place : {X : Type 0} (test : X → Bool) (xs : List X) (n : ℕ) → place_of test xs ≡ Some n
    → (x : X) × (slice_get xs n ≡ Some x) × (test x ≡ true) × (find test xs ≡ Some x)
at_place test [] n e = cc
at_place {X} test (x ∷ xs) n e = by (test x) refl (place_of test xs) refl (at_place test xs) e
  where
    by : (b : Bool) → test x ≡ b → (o : Option ℕ) → place_of test xs ≡ o
        → ((m : ℕ) → place_of test xs ≡ Some m → (y : X) × (slice_get xs m ≡ Some y) × (test y ≡ true) × (find test xs ≡ Some y))
        → cond b (Some 0) (option_map suc o) ≡ Some n
        → (y : X) × (slice_get (x ∷ xs) n ≡ Some y) × (test y ≡ true) × (cond (test x) (Some x) (find test xs) ≡ Some y)
    by true passes o is rest h = (x, subst (λ k. slice_get (x ∷ xs) k ≡ Some x) (same_Some 0 n h) refl, passes, ap (λ c. cond c (Some x) (find test xs)) passes)
    by false fails None is rest h = cc
    by false fails (Some m) is rest h =
        let found = rest m is in (
          found.0,
          subst (λ k. slice_get (x ∷ xs) k ≡ Some found.0) (same_Some (suc m) n h) found.1,
          found.2,
          ap (λ c. cond c (Some x) (find test xs)) fails ∙ found.3,
        )

-- where something passes a test, there is a first place
pub some_place : {X : Type 0} (test : X → Bool) (xs : List X) (k : ℕ) (x : X) → slice_get xs k ≡ Some x → test x ≡ true
    → (n : ℕ) × (place_of test xs ≡ Some n)
some_place test [] k x e passes = cc
some_place test (y ∷ ys) zero x e passes =
    (0, ap (λ b. cond b (Some 0) (option_map suc (place_of test ys))) (subst (λ z. test z ≡ true) (sym (same_Some y x e)) passes))
some_place {X} test (y ∷ ys) (suc k) x e passes = by (test y) (some_place test ys k x e passes)
  where
    by : (b : Bool) → (n : ℕ) × (place_of test ys ≡ Some n) → (n : ℕ) × (cond b (Some 0) (option_map suc (place_of test ys)) ≡ Some n)
    by true found = (0, refl)
    by false found = (suc found.0, ap (option_map suc) found.1)

-- what alone passes a test is found, at its place
pub own_place : {X : Type 0} (test : X → Bool) (xs : List X) (k : ℕ) (x : X) → slice_get xs k ≡ Some x → test x ≡ true
    → ((l : ℕ) (y : X) → slice_get xs l ≡ Some y → test y ≡ true → l ≡ k) → (place_of test xs ≡ Some k) × (find test xs ≡ Some x)
own_place {X} test xs k x at passes alone = (is_place, is_found)
  where
    first : (n : ℕ) × (place_of test xs ≡ Some n)
    first = some_place test xs k x at passes

    there : (y : X) × (slice_get xs first.0 ≡ Some y) × (test y ≡ true) × (find test xs ≡ Some y)
    there = at_place test xs first.0 first.1

    same : first.0 ≡ k
    same = alone first.0 there.0 there.1 there.2

    is_place : place_of test xs ≡ Some k
    is_place = first.1 ∙ ap Some same

    is_found : find test xs ≡ Some x
    is_found = there.3 ∙ sym (subst (λ n. slice_get xs n ≡ Some there.0) same there.1) ∙ at
