-- What numbered lists and ranges have, and the first thing of a list that passes a test.
use Rattle.std.proofs.Common.{◌≡◌, ℕ, zero, suc, ◌+◌, ◌<◌, ◌≤◌, Bool, true, false, cond, List, [], ◌∷◌, drop, None, Some, slice_get, ◌⊎◌, inl, inr, refl, sym, ap, ◌∙◌, subst, arith}
use Rattle.std.specs.List.{enumerate_from, find, range_with_len}
use Rattle.std.proofs.lemmas.Bool.{cases_lt}
use Rattle.list_defs.specs.Members.{IsIn}

-- what is numbered stands at its number
numbered_by : {X : Type 0} (from : ℕ) (xs : List X) (e : ℕ × X) → IsIn e (enumerate_from from xs) → (at : ℕ) × (e.0 ≡ from + at) × (slice_get xs at ≡ Some e.1)
numbered_by from [] e there = absurd there
numbered_by {X} from (x ∷ xs) e (inl same) = (0, ap (λ (f : ℕ × X). f.0) same ∙ omega arith, ap (λ (f : ℕ × X). Some f.1) (sym same))
numbered_by from (x ∷ xs) e (inr later) =
    let found = numbered_by (from + 1) xs e later in
    (suc found.0, omega (arith, found.1), found.2)

-- and what stands at a number is numbered so
by_number : {X : Type 0} (from : ℕ) (xs : List X) (at number : ℕ) (x : X) → number ≡ from + at → slice_get xs at ≡ Some x → IsIn (number, x) (enumerate_from from xs)
by_number from [] at number x is there = cc
by_number {X} from (y ∷ ys) zero number x is there =
    let first : number ≡ from = omega arith in
    let same : y ≡ x = cc in
    inl (let pair : (number, x) ≡ (from, y) = ap (λ (n : ℕ). (n, x)) first ∙ ap (λ (z : X). (from, z)) (sym same) in pair)
by_number from (y ∷ ys) (suc at) number x is there = inr (by_number (from + 1) ys at number x (omega arith) there)

pub number_in : {X : Type 0} (xs : List X) (e : ℕ × X) → IsIn e (enumerate_from 0 xs) → slice_get xs e.0 ≡ Some e.1
number_in xs e there =
    let found = numbered_by 0 xs e there in
    let same : e.0 ≡ found.0 = omega (arith, found.1) in
    ap (slice_get xs) same ∙ found.2

pub number_at : {X : Type 0} (xs : List X) (at : ℕ) (x : X) → slice_get xs at ≡ Some x → IsIn (at, x) (enumerate_from 0 xs)
number_at xs at x there = by_number 0 xs at at x (omega arith) there

-- the same behind the first
pub later_in : {X : Type 0} (xs : List X) (e : ℕ × X) → IsIn e (drop 1 (enumerate_from 0 xs)) → (0 < e.0) × (slice_get xs e.0 ≡ Some e.1)
later_in [] e there = absurd there
later_in (x ∷ xs) e there =
    let found = numbered_by 1 xs e there in
    let same : e.0 ≡ suc found.0 = omega (arith, found.1) in
    (omega (arith, same), ap (slice_get (x ∷ xs)) same ∙ found.2)

pub later_at : {X : Type 0} (xs : List X) (at : ℕ) (x : X) → 0 < at → slice_get xs at ≡ Some x → IsIn (at, x) (drop 1 (enumerate_from 0 xs))
later_at [] at x later there = cc
later_at (y ∷ ys) zero x later there = absurd (omega arith)
later_at (y ∷ ys) (suc at) x later there = by_number 1 ys at (suc at) x (omega arith) there

-- the numbers of a range
range_by : (a n k : ℕ) → IsIn k (range_with_len a n) → k < a + n
range_by a zero k there = absurd there
range_by a (suc n) k (inl is) = omega arith
range_by a (suc n) k (inr later) = let rest = range_by (a + 1) n k later in omega (arith, rest)

by_range : (a n k : ℕ) → a ≤ k → k < a + n → IsIn k (range_with_len a n)
by_range a zero k low high = absurd (omega arith)
by_range a (suc n) k low high = by (cases_lt a k) (by_range (a + 1) n k)
  where
    by : (a < k) ⊎ (k ≤ a) → (a + 1 ≤ k → k < a + 1 + n → IsIn k (range_with_len (a + 1) n)) → IsIn k (range_with_len a (suc n))
    by (inl more) rest = inr (rest (omega arith) (omega arith))
    by (inr equal) rest = inl (omega arith)

pub range_in : (n k : ℕ) → IsIn k (range_with_len 0 n) → k < n
range_in n k there = let below = range_by 0 n k there in omega (arith, below)

pub range_at : (n k : ℕ) → k < n → IsIn k (range_with_len 0 n)
range_at n k below = by_range 0 n k (omega arith) (omega arith)

module _ {X : Type 0} (test : X → Bool) where
  -- what alone passes a test is found
  pub find_in : (xs : List X) (x : X) → IsIn x xs → test x ≡ true → ((y : X) → IsIn y xs → test y ≡ true → y ≡ x) → find test xs ≡ Some x
  find_in [] x there pass alone = absurd there
  find_in (y ∷ ys) x there pass alone = by (test y) refl there (λ later. find_in ys x later pass (λ z is. alone z (inr is)))
    where
      by : (b : Bool) → test y ≡ b → (x ≡ y) ⊎ IsIn x ys → (IsIn x ys → find test ys ≡ Some x) → cond b (Some y) (find test ys) ≡ Some x
      by true here is rest = ap Some (alone y (inl refl) here)
      by false here (inl same) rest = let passes : test y ≡ true = subst (λ z. test z ≡ true) same pass in cc
      by false here (inr later) rest = rest later

  pub find_nothing : (xs : List X) → ((y : X) → IsIn y xs → test y ≡ true → ⊥) → find test xs ≡ None
  find_nothing [] none = refl
  find_nothing (y ∷ ys) none = by (test y) refl (find_nothing ys (λ z is. none z (inr is)))
    where
      by : (b : Bool) → test y ≡ b → find test ys ≡ None → cond b (Some y) (find test ys) ≡ None
      by true here rest = absurd (none y (inl refl) here)
      by false here rest = rest
