-- The one thing of a list that passes a test is the first one.
use Rattle.std.proofs.Common.{◌≡◌, ℕ, zero, suc, Bool, true, false, cond, List, [], ◌∷◌, None, Some, slice_get, refl, sym, ap, subst}
use Rattle.std.specs.List.{find}
use Rattle.std.specs.Option.{option_map}
use Rattle.list_defs.specs.Members.{place_of}

module _ {X : Type 0} (test : X → Bool) where
  -- nothing else of the list passes
  abbrev pub IsAlone : List X → ℕ → Type 0
  IsAlone xs n = (m : ℕ) (y : X) → slice_get xs m ≡ Some y → test y ≡ true → m ≡ n

  -- nothing of the list passes
  abbrev pub HasNone : List X → Type 0
  HasNone xs = (m : ℕ) (y : X) → slice_get xs m ≡ Some y → test y ≡ true → ⊥

  pub find_one : (xs : List X) (n : ℕ) (x : X) → slice_get xs n ≡ Some x → test x ≡ true → IsAlone xs n → find test xs ≡ Some x
  find_one [] n x at pass alone = cc
  find_one (y ∷ ys) zero x at pass alone =
      let same : y ≡ x = cc in
      rw (subst (λ z. test z ≡ true) (sym same) pass) (ap Some same)
  find_one (y ∷ ys) (suc n) x at pass alone = by (test y) refl (find_one ys n x at pass (λ m z there passes. (let more : suc m ≡ suc n = alone (suc m) z there passes in cc)))
    where
      by : (b : Bool) → test y ≡ b → find test ys ≡ Some x → cond b (Some y) (find test ys) ≡ Some x
      by true here rest = let first : zero ≡ suc n = alone zero y refl here in cc
      by false here rest = rest

  pub place_one : (xs : List X) (n : ℕ) (x : X) → slice_get xs n ≡ Some x → test x ≡ true → IsAlone xs n → place_of test xs ≡ Some n
  place_one [] n x at pass alone = cc
  place_one (y ∷ ys) zero x at pass alone =
      let same : y ≡ x = cc in
      rw (subst (λ z. test z ≡ true) (sym same) pass) refl
  place_one (y ∷ ys) (suc n) x at pass alone = by (test y) refl (place_one ys n x at pass (λ m z there passes. (let more : suc m ≡ suc n = alone (suc m) z there passes in cc)))
    where
      by : (b : Bool) → test y ≡ b → place_of test ys ≡ Some n → cond b (Some 0) (option_map suc (place_of test ys)) ≡ Some (suc n)
      by true here rest = let first : zero ≡ suc n = alone zero y refl here in cc
      by false here rest = ap (option_map suc) rest

  pub find_none : (xs : List X) → HasNone xs → find test xs ≡ None
  find_none [] none = refl
  find_none (y ∷ ys) none = by (test y) refl (find_none ys (λ m z there. none (suc m) z there))
    where
      by : (b : Bool) → test y ≡ b → find test ys ≡ None → cond b (Some y) (find test ys) ≡ None
      by true here rest = absurd (none zero y refl here)
      by false here rest = rest

  pub place_none : (xs : List X) → HasNone xs → place_of test xs ≡ None
  place_none [] none = refl
  place_none (y ∷ ys) none = by (test y) refl (place_none ys (λ m z there. none (suc m) z there))
    where
      by : (b : Bool) → test y ≡ b → place_of test ys ≡ None → cond b (Some 0) (option_map suc (place_of test ys)) ≡ None
      by true here rest = absurd (none zero y refl here)
      by false here rest = ap (option_map suc) rest
