-- What stands at places of lists that grow, and of lists in which one thing is set.
use Rattle.std.proofs.Common.{◌≡◌, ◌≢◌, ℕ, zero, suc, ◌+◌, ◌≤◌, ◌⊎◌, List, [], ◌∷◌, ◌++◌, None, Some, length, slice_get, take, set, replicate, inl, inr, refl, sym, ap, subst, arith}
use Rattle.std.proofs.lemmas.Bool.{cases_order}
use Rattle.std.proofs.lemmas.Option.{same_Some}
use Rattle.list_defs.specs.Members.{IsIn}

pub same_or_not : (a b : ℕ) → (a ≡ b) ⊎ (a ≢ b)
same_or_not a b =
    elim (cases_order a b) [
      | inl e ↦ inl e
      | inr o ↦ elim o [ inl less ↦ inr (λ e. omega arith) | inr more ↦ inr (λ e. omega arith) ]
    ]

-- something of a list with one more at the end is one of the list, or is that one
pub get_pushed : {X : Type 0} (xs : List X) (y : X) (at : ℕ) (z : X) → slice_get (xs ++ y ∷ []) at ≡ Some z → (slice_get xs at ≡ Some z) ⊎ ((at ≡ length xs) × (z ≡ y))
get_pushed [] y zero z e = inr (refl, sym (same_Some y z e))
get_pushed [] y (suc at) z e = cc
get_pushed (x ∷ xs) y zero z e = inl e
get_pushed (x ∷ xs) y (suc at) z e = elim (get_pushed xs y at z e) [ inl old ↦ inl old | inr new ↦ inr (omega (arith, new.0), new.1) ]

pub get_set_same : {X : Type 0} (xs : List X) (i : ℕ) (v w : X) → slice_get (set xs i v) i ≡ Some w → v ≡ w
get_set_same [] i v w e = cc
get_set_same (x ∷ xs) zero v w e = same_Some v w e
get_set_same (x ∷ xs) (suc i) v w e = get_set_same xs i v w e

pub get_replicate : {X : Type 0} (n : ℕ) (x y : X) (i : ℕ) → slice_get (replicate n x) i ≡ Some y → x ≡ y
get_replicate zero x y i e = cc
get_replicate (suc n) x y zero e = same_Some x y e
get_replicate (suc n) x y (suc i) e = get_replicate n x y i e

-- one of the first of a list, up to one more, is one of the first, or the next
pub in_take_more : {X : Type 0} (x : X) (xs : List X) (i n : ℕ) → n ≤ i + 1 → IsIn x (take n xs) → IsIn x (take i xs) ⊎ (slice_get xs i ≡ Some x)
in_take_more x [] i zero le there = absurd there
in_take_more x [] i (suc n) le there = absurd there
in_take_more x (y ∷ ys) i zero le there = absurd there
in_take_more x (y ∷ ys) zero (suc n) le there = first n (omega arith) there
  where
    first : (m : ℕ) → m ≡ 0 → (x ≡ y) ⊎ IsIn x (take m ys) → ⊥ ⊎ (Some y ≡ Some x)
    first m e (inl same) = inr (ap Some (sym same))
    first m e (inr later) = absurd (subst (λ k. IsIn x (take k ys)) e later)
in_take_more x (y ∷ ys) (suc i) (suc n) le there = next there (in_take_more x ys i n (omega arith))
  where
    next : (x ≡ y) ⊎ IsIn x (take n ys) → (IsIn x (take n ys) → IsIn x (take i ys) ⊎ (slice_get ys i ≡ Some x)) → ((x ≡ y) ⊎ IsIn x (take i ys)) ⊎ (slice_get ys i ≡ Some x)
    next (inl same) rest = inl (inl same)
    next (inr later) rest = elim (rest later) [ inl old ↦ inl (inr old) | inr new ↦ inr new ]

-- where nothing stands at a place, all of the list is before it
pub in_take_all : {X : Type 0} (x : X) (xs : List X) (i : ℕ) → slice_get xs i ≡ None → IsIn x xs → IsIn x (take i xs)
in_take_all x [] i none there = absurd there
in_take_all x (y ∷ ys) zero none there = cc
in_take_all x (y ∷ ys) (suc i) none there = elim there [ inl e ↦ inl e | inr later ↦ inr (in_take_all x ys i none later) ]
