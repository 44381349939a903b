-- Sources that are put down pair by pair.
use Rattle.std.proofs.Common.{◌≡◌, ◌≢◌, ℕ, zero, suc, ◌+◌, ◌<◌, ◌⊎◌, inl, inr, Bool, true, List, [], ◌∷◌, ◌++◌}
use Rattle.std.proofs.Common.{Option, None, Some, get_or, length, replicate, set, take, slice_get, refl, sym, ap, ◌∙◌, subst, arith, eqb}
use Rattle.std.specs.Option.{option_and_then}
use Rattle.std.specs.List.{flat_map}
use Rattle.std.proofs.lemmas.Grind.{flat_map-append}
use Rattle.std.proofs.lemmas.List.{append-nil, length-replicate, length-set, take_more}
use Rattle.std.proofs.lemmas.Option.{none-some, same_Some, slice_get_within}
use Rattle.list_defs.specs.Members.{IsIn, all_differ, place_of, same_name}
use Rattle.list_defs.proofs.Longer.{slice_get-set_other, slice_get-set_same}
use Rattle.list_defs.proofs.NameLemmas.{place_of-own, slice_get-place_of}
use Rattle.net_inner.specs.Inside.{AreSources}
use Rattle.net_inner.specs.Pairs.{Pair, with_pair, with_pairs, with_source}

pub with_pairs-append : (names : List (List ℕ)) (ps qs : List Pair) (sources : List (Option ℕ)) → with_pairs names (ps ++ qs) sources ≡ with_pairs names qs (with_pairs names ps sources)
with_pairs-append names [] qs sources = refl
with_pairs-append names (p ∷ ps) qs sources = with_pairs-append names ps qs (with_pair names p sources)

-- one more of a list, each of which says some pairs
pub pairs_more : {X : Type 0} (f : X → List Pair) (names : List (List ℕ)) (xs : List X) (i : ℕ) (x : X) (first old new : List (Option ℕ)) → i < length xs → x ≡ get_or xs i x
    → old ≡ with_pairs names (flat_map f (take i xs)) first → new ≡ with_pairs names (f x) old → new ≡ with_pairs names (flat_map f (take (i + 1) xs)) first
pairs_more f names xs i x first old new within is so_far step =
    let parts : flat_map f (take (i + 1) xs) ≡ flat_map f (take i xs) ++ (f x ++ []) =
    ap (flat_map f) (take_more xs i x within ∙ ap (λ y. take i xs ++ y ∷ []) (sym is)) ∙ flat_map-append f (take i xs) (x ∷ []) in
    let none : f x ++ [] ≡ f x = append-nil (f x) in
    step ∙ ap (with_pairs names (f x)) so_far ∙ sym (with_pairs-append names (flat_map f (take i xs)) (f x) first)
    ∙ sym (ap (λ ps. with_pairs names ps first) (parts ∙ ap (λ ps. flat_map f (take i xs) ++ ps) none))

-- the source of a bit that is put down
abbrev pub source_at : List (Option ℕ) → ℕ → Option ℕ
source_at sources k = option_and_then (λ o. o) (slice_get sources k)

-- a pair has its bits
record IsPutDown (names : List (List ℕ)) (pairs : List Pair) (sources : List (Option ℕ)) : Type 0 where
  count : length sources ≡ length names
  said : (fed from : ℕ) → source_at sources fed ≡ Some from → (a b : List ℕ) × (slice_get names fed ≡ Some a) × (slice_get names from ≡ Some b) × IsIn (a, b) pairs
  some : (fed from : ℕ) (a b : List ℕ) → slice_get names fed ≡ Some a → slice_get names from ≡ Some b → IsIn (a, b) pairs → (other : ℕ) × (source_at sources fed ≡ Some other)

nothing_at : (n k : ℕ) → source_at (replicate n None) k ≡ None
nothing_at zero k = refl
nothing_at (suc n) zero = refl
nothing_at (suc n) (suc k) = nothing_at n k

none_yet : (names : List (List ℕ)) → IsPutDown names [] (replicate (length names) None)
none_yet names = record {
  count = length-replicate (length names) None;
  said = λ fed from is. absurd (none-some from (sym (nothing_at (length names) fed) ∙ is));
  some = λ fed from a b at_a at_b there. absurd there;
}

-- a list of pairs with one more behind them
module _ (names : List (List ℕ)) (differ : all_differ same_name names ≡ true) where
  IsIn-more : (p q : Pair) (pairs : List Pair) → IsIn p (pairs ++ q ∷ []) → IsIn p pairs ⊎ (p ≡ q)
  IsIn-more p q [] (inl same) = inr same
  IsIn-more p q [] (inr later) = absurd later
  IsIn-more p q (r ∷ pairs) (inl same) = inl (inl same)
  IsIn-more p q (r ∷ pairs) (inr later) = elim (IsIn-more p q pairs later) [ inl old ↦ inl (inr old) | inr new ↦ inr new ]

  IsIn-old : (p q : Pair) (pairs : List Pair) → IsIn p pairs → IsIn p (pairs ++ q ∷ [])
  IsIn-old p q [] there = absurd there
  IsIn-old p q (r ∷ pairs) (inl same) = inl same
  IsIn-old p q (r ∷ pairs) (inr later) = inr (IsIn-old p q pairs later)

  IsIn-last : (q : Pair) (pairs : List Pair) → IsIn q (pairs ++ q ∷ [])
  IsIn-last q [] = inl refl
  IsIn-last q (r ∷ pairs) = inr (IsIn-last q pairs)

  same_or_other : (n m : ℕ) → (n ≡ m) ⊎ (n ≢ m)
  same_or_other zero zero = inl refl
  same_or_other zero (suc m) = inr (λ e. absurd (omega (arith, e)))
  same_or_other (suc n) zero = inr (λ e. absurd (omega (arith, e)))
  same_or_other (suc n) (suc m) = elim (same_or_other n m) [ inl same ↦ inl (ap suc same) | inr other ↦ inr (λ e. other (omega (arith, e))) ]

  one_more : (pairs : List Pair) (q : Pair) (sources : List (Option ℕ)) → IsPutDown names pairs sources → IsPutDown names (pairs ++ q ∷ []) (with_pair names q sources)
  one_more pairs q sources old = by (place_of (same_name q.0) names) refl (place_of (same_name q.1) names) refl
    where
      kept : (fed from : ℕ) (a b : List ℕ) → slice_get names fed ≡ Some a → slice_get names from ≡ Some b → IsIn (a, b) (pairs ++ q ∷ [])
          → ((a, b) ≡ q → (other : ℕ) × (source_at sources fed ≡ Some other)) → (other : ℕ) × (source_at sources fed ≡ Some other)
      kept fed from a b at_a at_b there new = elim (IsIn-more (a, b) q pairs there) [ inl before ↦ old.some fed from a b at_a at_b before | inr same ↦ new same ]

      unchanged : ((fed from : ℕ) (a b : List ℕ) → slice_get names fed ≡ Some a → slice_get names from ≡ Some b → (a, b) ≡ q → ⊥) → IsPutDown names (pairs ++ q ∷ []) sources
      unchanged never = record {
        count = old.count;
        said = λ fed from is. let was = old.said fed from is in (was.0, was.1, was.2, was.3, IsIn-old (was.0, was.1) q pairs was.4);
        some = λ fed from a b at_a at_b there. kept fed from a b at_a at_b there (λ same. absurd (never fed from a b at_a at_b same));
      }

      by : (o : Option ℕ) → place_of (same_name q.0) names ≡ o → (r : Option ℕ) → place_of (same_name q.1) names ≡ r → IsPutDown names (pairs ++ q ∷ []) (with_source o r sources)
      by None e r f = unchanged (λ fed from a b at_a at_b same. none-some fed (sym e ∙ ap (λ (p : Pair). place_of (same_name p.0) names) (sym same) ∙ place_of-own a names fed differ at_a))
      by (Some k) e None f = unchanged (λ fed from a b at_a at_b same. none-some from (sym f ∙ ap (λ (p : Pair). place_of (same_name p.1) names) (sym same) ∙ place_of-own b names from differ at_b))
      by (Some k) e (Some j) f = record {
        count = length-set sources k (Some j) ∙ old.count;
        said = λ fed from is. said_at fed from is (same_or_other fed k);
        some = λ fed from a b at_a at_b there. some_at fed from a b at_a at_b there (same_or_other fed k);
      }
        where
          at_k : slice_get names k ≡ Some q.0
          at_k = slice_get-place_of q.0 names k e

          within : k < length sources
          within = omega (arith, old.count, slice_get_within names k q.0 at_k)

          put : source_at (set sources k (Some j)) k ≡ Some j
          put = ap (option_and_then (λ o. o)) (slice_get-set_same sources k (Some j) within)

          other_kept : (fed : ℕ) → fed ≢ k → source_at (set sources k (Some j)) fed ≡ source_at sources fed
          other_kept fed other = ap (option_and_then (λ o. o)) (slice_get-set_other sources k fed (Some j) other)

          said_at : (fed from : ℕ) → source_at (set sources k (Some j)) fed ≡ Some from → (fed ≡ k) ⊎ (fed ≢ k)
              → (a b : List ℕ) × (slice_get names fed ≡ Some a) × (slice_get names from ≡ Some b) × IsIn (a, b) (pairs ++ q ∷ [])
          said_at fed from is (inl same) =
              let here : source_at (set sources k (Some j)) fed ≡ Some j = ap (source_at (set sources k (Some j))) same ∙ put in
              let source : from ≡ j = same_Some from j (sym is ∙ here) in
              (q.0, q.1, ap (slice_get names) same ∙ at_k, ap (slice_get names) source ∙ slice_get-place_of q.1 names j f, IsIn-last q pairs)
          said_at fed from is (inr other) =
              let was = old.said fed from (sym (other_kept fed other) ∙ is) in (was.0, was.1, was.2, was.3, IsIn-old (was.0, was.1) q pairs was.4)

          some_at : (fed from : ℕ) (a b : List ℕ) → slice_get names fed ≡ Some a → slice_get names from ≡ Some b → IsIn (a, b) (pairs ++ q ∷ []) → (fed ≡ k) ⊎ (fed ≢ k)
              → (x : ℕ) × (source_at (set sources k (Some j)) fed ≡ Some x)
          some_at fed from a b at_a at_b there (inl same) = (j, ap (source_at (set sources k (Some j))) same ∙ put)
          some_at fed from a b at_a at_b there (inr other) =
              let found = kept fed from a b at_a at_b there
              (λ is. absurd (other (same_Some fed k (sym (place_of-own a names fed differ at_a) ∙ ap (λ (p : Pair). place_of (same_name p.0) names) is ∙ e)))) in
              (found.0, other_kept fed other ∙ found.1)

  all_more : (pairs more : List Pair) (sources : List (Option ℕ)) → IsPutDown names pairs sources → IsPutDown names (pairs ++ more) (with_pairs names more sources)
  all_more pairs [] sources old = subst (λ ps. IsPutDown names ps sources) (sym (append-nil pairs)) old
  all_more pairs (q ∷ more) sources old =
      subst (λ ps. IsPutDown names ps (with_pairs names more (with_pair names q sources))) (regroup pairs) (all_more (pairs ++ q ∷ []) more (with_pair names q sources) (one_more pairs q sources old))
    where
      regroup : (ps : List Pair) → (ps ++ q ∷ []) ++ more ≡ ps ++ q ∷ more
      regroup [] = refl
      regroup (p ∷ ps) = ap (λ qs. p ∷ qs) (regroup ps)

  -- all pairs put down
  pub put_down : (pairs : List Pair) → AreSources names pairs (source_at (with_pairs names pairs (replicate (length names) None)))
  put_down pairs = let all = all_more [] pairs (replicate (length names) None) (none_yet names) in record { said = all.said; some = all.some }
