-- Lists that grow at their end can still be read.
use Rattle.std.proofs.Common.{◌≡◌, ◌≢◌, ℕ, zero, suc, ◌+◌, ◌-◌, ◌<◌, ◌≤◌, ◌⊎◌, inl, inr, List, [], ◌∷◌, ◌++◌, Some, length, get_or, take, drop, set, refl, sym, ap, ◌∙◌, subst, arith}
use Rattle.std.specs.List.{slice_get, slice_range}
use Rattle.std.proofs.lemmas.Bool.{cases_lt}
use Rattle.std.proofs.lemmas.List.{drop-append-le, drop_at, get_or_append_left, get_or_at, length-drop, length_push, take-append-le, take_all}
use Rattle.std.proofs.lemmas.Option.{none-some}

pub slice_get-append : {X : Type 0} (xs ys : List X) (i : ℕ) (x : X) → slice_get xs i ≡ Some x → slice_get (xs ++ ys) i ≡ Some x
slice_get-append [] ys i x e = absurd (none-some x e)
slice_get-append (y ∷ xs) ys zero x e = e
slice_get-append (y ∷ xs) ys (suc i) x e = slice_get-append xs ys i x e

pub slice_get_front : {X : Type 0} (xs ys : List X) (i : ℕ) (x : X) → i < length xs → slice_get (xs ++ ys) i ≡ Some x → slice_get xs i ≡ Some x
slice_get_front [] ys i x inside e = absurd (omega arith)
slice_get_front (y ∷ xs) ys zero x inside e = e
slice_get_front (y ∷ xs) ys (suc i) x inside e = slice_get_front xs ys i x (omega arith) e

pub slice_get_behind : {X : Type 0} (xs ys : List X) (i : ℕ) → slice_get (xs ++ ys) (length xs + i) ≡ slice_get ys i
slice_get_behind [] ys i = ap (λ (k : ℕ). slice_get ys k) {x = 0 + i} {y = i} (omega arith)
slice_get_behind (x ∷ xs) ys i =
    ap (λ (k : ℕ). slice_get (x ∷ (xs ++ ys)) k) {x = length (x ∷ xs) + i} {y = suc (length xs + i)} (omega arith) ∙ slice_get_behind xs ys i

pub slice_get_last : {X : Type 0} (xs : List X) (y : X) (i : ℕ) → i ≡ length xs → slice_get (xs ++ y ∷ []) i ≡ Some y
slice_get_last [] y i e = ap (λ (k : ℕ). slice_get (y ∷ []) k) e
slice_get_last (x ∷ xs) y zero e = absurd (omega arith)
slice_get_last (x ∷ xs) y (suc i) e = slice_get_last xs y i (omega arith)

-- what holds of each of a list by its number, and of one more, holds of each of the longer list
pub each_more : {X : Type 0} (P : ℕ → X → Type 0) (xs : List X) (y d : X) → ((n : ℕ) → n < length xs → P n (get_or xs n d)) → P (length xs) y
    → (n : ℕ) → n < length (xs ++ y ∷ []) → P n (get_or (xs ++ y ∷ []) n d)
each_more P xs y d old new n within = by (cases_lt n (length xs))
  where
    by : (n < length xs) ⊎ (length xs ≤ n) → P n (get_or (xs ++ y ∷ []) n d)
    by (inl early) = subst (P n) (sym (get_or_append_left xs (y ∷ []) d n early)) (old n early)
    by (inr late) =
        let last : length xs ≡ n = omega (arith, length_push xs y) in
        let Q : ℕ → Type 0 = λ k. P k y in
        subst (P n) (sym (get_or_at xs y [] d n last)) (subst Q last new)

-- a part of a list is the same part of a longer one
pub early_part : {X : Type 0} (xs more : List X) (from end : ℕ) → from ≤ end → end ≤ length xs → slice_range (xs ++ more) from end ≡ slice_range xs from end
early_part xs more from end rises within =
    ap (take (end - from)) (drop-append-le from xs more (omega arith)) ∙ take-append-le (end - from) (drop from xs) more (omega (arith, length-drop from xs))

-- what stands behind a list is the part of the longer one from its end on
pub last_part : {X : Type 0} (xs more : List X) (from end : ℕ) → from ≡ length xs → end ≡ length xs + length more → slice_range (xs ++ more) from end ≡ more
last_part xs more from end starts ends =
    ap (take (end - from)) (drop_at xs more from (sym starts)) ∙ take_all (end - from) more (omega arith)

-- LISTS in which one place is set
pub slice_get-set_same : {X : Type 0} (xs : List X) (i : ℕ) (y : X) → i < length xs → slice_get (set xs i y) i ≡ Some y
slice_get-set_same [] i y within = absurd (omega arith)
slice_get-set_same (x ∷ xs) zero y within = refl
slice_get-set_same (x ∷ xs) (suc i) y within = slice_get-set_same xs i y (omega arith)

pub slice_get-set_other : {X : Type 0} (xs : List X) (i j : ℕ) (y : X) → j ≢ i → slice_get (set xs i y) j ≡ slice_get xs j
slice_get-set_other [] i j y other = refl
slice_get-set_other (x ∷ xs) zero zero y other = absurd (other refl)
slice_get-set_other (x ∷ xs) zero (suc j) y other = refl
slice_get-set_other (x ∷ xs) (suc i) zero y other = refl
slice_get-set_other (x ∷ xs) (suc i) (suc j) y other = slice_get-set_other xs i j y (λ same. other (ap suc same))
