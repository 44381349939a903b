-- Lists whose items differ, and tests of all items of a list that is put in another order.
use Rattle.std.proofs.Common.{◌≡◌, Bool, true, false, not, cond, eqb, ◌&&◌, ◌||◌, List, [], ◌∷◌, ◌++◌, refl, sym, ap, ◌∙◌}
use Rattle.std.proofs.lemmas.Bool.{false≢true, not-true}
use Rattle.std.proofs.lemmas.List.Folds.{list_any-append, sum_by-zero}
use Rattle.std.proofs.lemmas.List.Sorted.{sum_by-IsPermutation}
use Rattle.std.proofs.lemmas.Map.Keys.{IsDistinct-head, IsDistinct-tail, IsDistinct-push, IsDistinct-IsPermutation}
use Rattle.std.specs.Cmp.{IsEquivalence}
use Rattle.std.specs.List.{AllByRecursion, IsDistinct, list_all, list_any}
use Rattle.std.specs.List.Sorted.{IsPermutation}
use Rattle.list_defs.specs.Members.{all_differ}

pub and_first : (a b : Bool) → (a && b) ≡ true → a ≡ true
and_first true b h = refl
and_first false b h = h

pub and_last : (a b : Bool) → (a && b) ≡ true → b ≡ true
and_last true b h = h
and_last false b h = absurd (false≢true h)

pub or_first : (a b : Bool) → (a || b) ≡ false → a ≡ false
or_first true b h = h
or_first false b h = refl

pub or_last : (a b : Bool) → (a || b) ≡ false → b ≡ false
or_last true b h = cc
or_last false b h = h

module _ {X : Type 0} where
  each_fails : (test : X → Bool) (xs : List X) → list_any test xs ≡ false → AllByRecursion (λ x. test x ≡ false) xs
  each_fails test [] h = tt
  each_fails test (x ∷ xs) h =
      (or_first (test x) (list_any test xs) h, each_fails test xs (or_last (test x) (list_any test xs) h))

  none_passes : (test : X → Bool) (xs : List X) → AllByRecursion (λ x. test x ≡ false) xs → list_any test xs ≡ false
  none_passes test [] h = refl
  none_passes test (x ∷ xs) h = ap (λ b. b || list_any test xs) h.0 ∙ none_passes test xs h.1

  module _ (same : X → X → Bool) where
    distinct_from_all_differ : (xs : List X) → all_differ same xs ≡ true → IsDistinct same xs
    unfolding IsDistinct
    distinct_from_all_differ [] h = tt
    distinct_from_all_differ (x ∷ xs) h =
        (each_fails (same x) xs (not-true _ (and_first (not (list_any (same x) xs)) (all_differ same xs) h)), distinct_from_all_differ xs (and_last (not (list_any (same x) xs)) (all_differ same xs) h))

    all_differ-from_distinct : (xs : List X) → IsDistinct same xs → all_differ same xs ≡ true
    all_differ-from_distinct [] h = refl
    all_differ-from_distinct (x ∷ xs) h =
        ap (λ b. not b && all_differ same xs) (none_passes (same x) xs (IsDistinct-head same x xs h)) ∙ all_differ-from_distinct xs (IsDistinct-tail same x xs h)

    -- items that differ still do in another order
    pub all_differ-IsPermutation : ((x y : X) → same x y ≡ same y x) → (xs ys : List X) → IsPermutation xs ys → all_differ same xs ≡ true → all_differ same ys ≡ true
    all_differ-IsPermutation symmetric xs ys moved differ =
        all_differ-from_distinct ys (IsDistinct-IsPermutation same symmetric xs ys moved (distinct_from_all_differ xs differ))

  passes_as_zero : (test : X → Bool) (xs : List X) → list_all (λ x. eqb (cond (test x) 0 1) 0) xs ≡ list_all test xs
  passes_as_zero test [] = refl
  passes_as_zero test (x ∷ xs) = by (test x) (passes_as_zero test xs)
    where
      by : (b : Bool) → list_all (λ x. eqb (cond (test x) 0 1) 0) xs ≡ list_all test xs → (eqb (cond b 0 1) 0 && list_all (λ x. eqb (cond (test x) 0 1) 0) xs) ≡ (b && list_all test xs)
      by true h = h
      by false h = refl

  -- a test of all items says the same in another order
  pub list_all-IsPermutation : (test : X → Bool) (xs ys : List X) → IsPermutation xs ys → list_all test ys ≡ list_all test xs
  list_all-IsPermutation test xs ys moved =
      sym (passes_as_zero test ys) ∙ sym (sum_by-zero (λ x. cond (test x) 0 1) ys) ∙ ap (λ n. eqb n 0) (sum_by-IsPermutation (λ x. cond (test x) 0 1) xs ys moved) ∙ sum_by-zero (λ x. cond (test x) 0 1) xs ∙ passes_as_zero test xs

or_true : (b : Bool) → (b || true) ≡ true
or_true true = refl
or_true false = refl

pub and_false : (a b : Bool) → b ≡ false → (a && b) ≡ false
and_false true b h = h
and_false false b h = refl

module _ {X : Type 0} (same : X → X → Bool) (laws : IsEquivalence same) where
  -- an item that is the same as none in front of it
  pub all_differ-last : (xs : List X) (x : X) → list_any (same x) xs ≡ false → all_differ same xs ≡ true → all_differ same (xs ++ x ∷ []) ≡ true
  all_differ-last xs x new differ =
      all_differ-from_distinct same (xs ++ x ∷ []) (IsDistinct-push laws xs x (distinct_from_all_differ same xs differ) new)

  -- an item that is the same as one in front of it
  pub all_differ-repeated : (xs : List X) (x : X) (more : List X) → list_any (same x) xs ≡ true → all_differ same (xs ++ x ∷ more) ≡ false
  all_differ-repeated [] x more h = absurd (false≢true h)
  all_differ-repeated (y ∷ ys) x more h = by (same x y) refl (all_differ-repeated ys x more) h
    where
      again : same x y ≡ true → list_any (same y) (ys ++ x ∷ more) ≡ true
      again e =
          list_any-append (same y) ys (x ∷ more) ∙ ap (λ b. list_any (same y) ys || (b || list_any (same y) more)) (laws.symm y x ∙ e) ∙ or_true (list_any (same y) ys)

      by : (b : Bool) → same x y ≡ b → (list_any (same x) ys ≡ true → all_differ same (ys ++ x ∷ more) ≡ false) → (b || list_any (same x) ys) ≡ true → all_differ same (y ∷ (ys ++ x ∷ more)) ≡ false
      by true e rest h = ap (λ b. not b && all_differ same (ys ++ x ∷ more)) (again e)
      by false e rest h = and_false (not (list_any (same y) (ys ++ x ∷ more))) _ (rest h)
