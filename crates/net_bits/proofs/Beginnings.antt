-- Sums over the first of a list, and what begins where the one before it ends.
use Rattle.std.proofs.Common.{◌≡◌, ℕ, zero, suc, ◌+◌, ◌<◌, ◌≤◌, ◌⊎◌, inl, inr, List, [], ◌∷◌, None, Some, get_or, length, take, slice_get, refl, sym, ap, ◌∙◌, subst, arith}
use Rattle.std.specs.List.{sum_by}
use Rattle.std.proofs.lemmas.List.{take_all}
use Rattle.std.proofs.lemmas.List.Sums.{sum_by-cons, sum_by_more}
use Rattle.std.proofs.lemmas.Option.{get_or_from_slice_get, slice_get_cases, slice_get_within}
use Rattle.net_bits.specs.Standing.{IsBegun, IsLastBegun}

-- two lists of which each has the same number as the one beside it have the same sums
pub sums_alike : {X Y : Type 0} (f : X → ℕ) (g : Y → ℕ) (xs : List X) (ys : List Y) → length xs ≡ length ys
    → ((i : ℕ) (x : X) (y : Y) → slice_get xs i ≡ Some x → slice_get ys i ≡ Some y → f x ≡ g y) → (k : ℕ) → sum_by f (take k xs) ≡ sum_by g (take k ys)
sums_alike f g xs ys same each zero = refl
sums_alike f g [] [] same each (suc k) = refl
sums_alike f g [] (y ∷ ys) same each (suc k) = absurd (omega (arith, same))
sums_alike f g (x ∷ xs) [] same each (suc k) = absurd (omega (arith, same))
sums_alike f g (x ∷ xs) (y ∷ ys) same each (suc k) =
    sum_by-cons f x (take k xs) ∙ ap (λ (n : ℕ). n + sum_by f (take k xs)) (each 0 x y refl refl)
    ∙ ap (λ (n : ℕ). g y + n) (sums_alike f g xs ys (omega (arith, same)) (λ i. each (suc i)) k) ∙ sym (sum_by-cons g y (take k ys))

-- Each begins where the one before it ends: the last one that begins at or before a number ends behind it.
module _ {X : Type 0} (first size : X → ℕ) (xs : List X) (firsts : (i : ℕ) (x : X) → slice_get xs i ≡ Some x → first x ≡ sum_by size (take i xs)) where
  pub ends_behind : (number : ℕ) → number < sum_by size xs → (place : ℕ) (x : X) → IsLastBegun first xs number place x → number < first x + size x
  ends_behind number few place x last = by (slice_get_cases xs (place + 1)).1
    where
      within : place < length xs
      within = slice_get_within xs place x last.there

      so_far : sum_by size (take (place + 1) xs) ≡ first x + size x
      so_far =
          sum_by_more size xs place x within ∙ ap (λ (y : X). sum_by size (take place xs) + size y) (get_or_from_slice_get xs place x x last.there)
          ∙ ap (λ (n : ℕ). n + size x) (sym (firsts place x last.there))

      by : ((y : X) × (place + 1 < length xs) × (slice_get xs (place + 1) ≡ Some y) × (get_or xs (place + 1) y ≡ y)) ⊎ ((length xs ≤ place + 1) × (slice_get xs (place + 1) ≡ None))
          → number < first x + size x
      by (inl found) = let begins = firsts (place + 1) found.0 found.2 in omega (arith, last.next found.0 found.2, begins, so_far)
      by (inr past) = let all : sum_by size (take (place + 1) xs) ≡ sum_by size xs = ap (sum_by size) (take_all (place + 1) xs past.0) in omega (arith, few, all, so_far)

-- How far a search by halves has come: what stands right before one place begins at or before the number, and what stands
-- at another behind it.
pub record IsBetween {X : Type 0} (first : X → ℕ) (xs : List X) (number low high : ℕ) : Type 0 where
  pub last : (k : ℕ) (x : X) → k + 1 ≡ low → slice_get xs k ≡ Some x → first x ≤ number
  pub next : (x : X) → slice_get xs high ≡ Some x → number < first x

module _ {X : Type 0} (first : X → ℕ) (xs : List X) (number : ℕ) where
  pub between_all : (low high : ℕ) → low ≡ 0 → length xs ≤ high → IsBetween first xs number low high
  between_all low high starts ends = record {
    last = λ k x place at. absurd (omega (arith, starts, place));
    next = λ x at. absurd (omega (arith, ends, slice_get_within xs high x at));
  }

  pub between_above : (low high middle : ℕ) → IsBetween first xs number low high → ((x : X) → slice_get xs middle ≡ Some x → first x ≤ number)
      → IsBetween first xs number (middle + 1) high
  between_above low high middle old here =
      record { last = λ k x place at. here x (subst (λ (n : ℕ). slice_get xs n ≡ Some x) (omega (arith, place)) at); next = old.next }

  pub between_below : (low high middle : ℕ) → IsBetween first xs number low high → ((x : X) → slice_get xs middle ≡ Some x → number < first x)
      → IsBetween first xs number low middle
  between_below low high middle old here = record { last = old.last; next = here }

  pub between_end : (low high : ℕ) → low ≡ high → IsBetween first xs number low high → IsBegun first xs number low
  between_end low high same old = record { last = old.last; next = λ x at. old.next x (subst (λ (n : ℕ). slice_get xs n ≡ Some x) same at) }

  pub last_begun : (count place : ℕ) (x : X) → place + 1 ≡ count → slice_get xs place ≡ Some x → IsBegun first xs number count → IsLastBegun first xs number place x
  last_begun count place x same at begun = record {
    there = at;
    before = begun.last place x same at;
    next = λ y at_y. begun.next y (subst (λ (n : ℕ). slice_get xs n ≡ Some y) same at_y);
  }
