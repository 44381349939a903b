-- What belongs to a view stands in one row in a list in order.
use Rattle.std.proofs.Common.{◌≡◌, ◌≢◌, Bool, true, false, ◌&&◌, List, [], ◌∷◌, ◌++◌, filter, ◌⊎◌, inl, inr, refl, sym, ap, ◌∙◌, subst}
use Rattle.std.specs.List.{AllByRecursion}
use Rattle.std.specs.List.Sorted.{IsStrictlySortedBy}
use Rattle.std.specs.BTreeMap.Range.{range_contains}
use Rattle.std.specs.Cmp.{IsTotalOrder}
use Rattle.std.specs.Ordering.{is_gt, is_le, ordering_then, ordering_reverse}
use Rattle.std.specs.declared.cmp.Ordering.{Ordering}
use Rattle.std.specs.declared.cmp.Ordering.TheVariants.{Less, Equal, Greater}
use Rattle.std.specs.declared.ops.Bound.TheVariants.{Included, Unbounded}
use Rattle.std.proofs.lemmas.Cmp.{nat_cmp_total, on_total, then_total, tied_itself}
use Rattle.list_defs.specs.Members.{IsIn}
use Rattle.list_defs.specs.Orders.{IsRising, AreAllRising}
use Rattle.list_defs.proofs.Members.{IsIn-filter, IsIn-filter_from, IsIn-append_left, IsIn-append_right, IsIn-append_cases}
use Rattle.list_defs.proofs.Rising.{each_in, IsRising-filter, IsRising-append}
use Rattle.unit_lists.specs.Views.{view_cmp}
use Rattle.unit_lists.specs.declared.views.View.{View}
use Rattle.unit_lists.proofs.SetLemmas.{at_view_cmp, exact_views}

-- the order of views is total
pub view_cmp_total : IsTotalOrder view_cmp
view_cmp_total = then_total (on_total (λ (a : View). a.unit) nat_cmp_total) (on_total (λ (a : View). a.supply) nat_cmp_total)

-- a sorted list rises
pub rising_from_sorted : {K : Type 0} (cmp : K → K → Ordering) (ks : List K) → IsStrictlySortedBy cmp ks → IsRising cmp ks
unfolding IsStrictlySortedBy
rising_from_sorted cmp [] h = tt
rising_from_sorted cmp (k ∷ ks) h = (h.0, rising_from_sorted cmp ks h.1)

-- What was found of a view so far, with what is left of a list in order: all that belongs to the view is in either, and
-- what was found comes before what is left.
pub record IsListing {V : Type 0} (cmp : V → V → Ordering) (keys : List (View × V)) (view : View) (found : List V) (left : List (View × V)) : Type 0 where
  pub all : (v : V) → IsIn (view, v) keys → IsIn v found ⊎ IsIn (view, v) left
  pub each : (v : V) → IsIn v found → IsIn (view, v) keys
  pub rising : IsRising cmp found
  pub before : (v w : V) → IsIn v found → IsIn (view, w) left → cmp v w ≡ Less
  pub sorted : IsRising (at_view_cmp cmp) left
  pub from : (p : View × V) → IsIn p left → is_gt (view_cmp view p.0) ≡ false
  pub there : (p : View × V) → IsIn p left → IsIn p keys

-- what isn't above a pair has a view that isn't above the pair's
first_not_above : (o p : Ordering) → is_le (ordering_then o p) ≡ true → is_gt o ≡ false
first_not_above Less p e = refl
first_not_above Equal p e = refl
first_not_above Greater p e = cc

not_above : (o : Ordering) → is_gt o ≡ false → is_le o ≡ true
not_above Less e = refl
not_above Equal e = refl
not_above Greater e = cc

and_parts : (a b : Bool) → (a && b) ≡ true → a ≡ true
and_parts true b e = refl
and_parts false b e = cc

and_true : (a b : Bool) → a ≡ true → b ≡ true → (a && b) ≡ true
and_true a b e f = cc

-- what belongs to the view isn't below the least pair of it
in_range : {V : Type 0} (cmp : V → V → Ordering) (view : View) (least v : V) → is_gt (cmp least v) ≡ false
    → range_contains (at_view_cmp cmp) (Included (view, least)) Unbounded (view, v) ≡ true
in_range cmp view least v h =
    let same : view_cmp view view ≡ Equal = tied_itself view_cmp_total view in
    let P : Ordering → Type 0 = λ o. (is_le (ordering_then o (cmp least v)) && true) ≡ true in
    subst P (sym same) (and_true (is_le (cmp least v)) true (not_above (cmp least v) h) refl)

-- the part of a list in order that begins at the least pair of a view
pub listing_begins : {V : Type 0} (cmp : V → V → Ordering) (keys : List (View × V)) (view : View) (least : V) (found : List V) (left : List (View × V))
    → ((v : V) → is_gt (cmp least v) ≡ false) → IsStrictlySortedBy (at_view_cmp cmp) keys → found ≡ []
    → left ≡ filter (range_contains (at_view_cmp cmp) (Included (view, least)) Unbounded) keys → IsListing cmp keys view found left
listing_begins {V} cmp keys view least found left lowest sorted none e =
    let test : View × V → Bool = range_contains (at_view_cmp cmp) (Included (view, least)) Unbounded in
    let F : List V → Type 0 = λ xs. IsListing cmp keys view xs left in
    let L : List (View × V) → Type 0 = λ xs. IsListing cmp keys view [] xs in
    subst F (sym none) (subst L (sym e) (record {
      all = λ v there. inr (IsIn-filter test (view, v) keys there (in_range cmp view least v (lowest v)));
      each = λ v none. absurd none;
      rising = tt;
      before = λ v w none there. absurd none;
      sorted = IsRising-filter (at_view_cmp cmp) test keys (rising_from_sorted (at_view_cmp cmp) keys sorted);
      from = λ p there. first_not_above (view_cmp view p.0) (cmp least p.1) (and_parts (is_le (at_view_cmp cmp (view, least) p)) true (IsIn-filter_from test p keys there).1);
      there = λ p there. (IsIn-filter_from test p keys there).0;
    }))

-- of two pairs of one view the first has what comes before
same_view_less : {V : Type 0} (cmp : V → V → Ordering) (a b : View) (v w : V) → a ≡ b → at_view_cmp cmp (a, v) (b, w) ≡ Less → cmp v w ≡ Less
same_view_less cmp a b v w same less =
    let tied : view_cmp a b ≡ Equal = ap (view_cmp a) (sym same) ∙ tied_itself view_cmp_total a in
    let P : Ordering → Type 0 = λ o. ordering_then o (cmp v w) ≡ Less in
    subst P tied less

same_pair : {V : Type 0} (a : View) (p : View × V) → p.0 ≡ a → p ≡ (a, p.1)
same_pair a p e = ap (λ (b : View). (b, p.1)) e

-- each of a list comes before what stands behind it
pub each_before : {V : Type 0} (cmp : V → V → Ordering) (found : List V) (v : V) → ((w : V) → IsIn w found → cmp w v ≡ Less)
    → AllByRecursion (λ w. AllByRecursion (λ y. cmp w y ≡ Less) (v ∷ [])) found
each_before cmp [] v below = tt
each_before cmp (w ∷ ws) v below = ((below w (inl refl), tt), each_before cmp ws v (λ u there. below u (inr there)))

-- the next pair is of the view
one_more : {V : Type 0} (cmp : V → V → Ordering) (keys : List (View × V)) (view : View) (found : List V) (p : View × V) (left : List (View × V))
    → p.0 ≡ view → IsListing cmp keys view found (p ∷ left) → IsListing cmp keys view (found ++ p.1 ∷ []) left
one_more {V} cmp keys view found p left same h = record {
  all = λ v there. elim (h.all v there) [
    | inl was ↦ inl (IsIn-append_left v found (p.1 ∷ []) was)
    | inr then ↦ elim then [
      | inl here ↦ inl (IsIn-append_right v found (p.1 ∷ []) (inl (ap (λ (q : View × V). q.1) here)))
      | inr later ↦ inr later
    ]
  ];
  each = λ v there. elim (IsIn-append_cases v found (p.1 ∷ []) there) [
    | inl was ↦ h.each v was
    | inr new ↦ elim new [
      | inl here ↦ (let K : View × V → Type 0 = λ q. IsIn q keys in subst K (pair v here) (h.there p (inl refl)))
      | inr none ↦ absurd none
    ]
  ];
  rising = IsRising-append cmp found (p.1 ∷ []) h.rising (tt, tt) (each_before cmp found p.1 (λ w there. h.before w p.1 there (inl (sym (same_pair view p same)))));
  before = λ v w there later. elim (IsIn-append_cases v found (p.1 ∷ []) there) [
    | inl was ↦ h.before v w was (inr later)
    | inr new ↦ elim new [
      | inl here ↦ (let C : V → Type 0 = λ u. cmp u w ≡ Less in subst C (sym here) (next w later))
      | inr none ↦ absurd none
    ]
  ];
  sorted = h.sorted.1;
  from = λ q there. h.from q (inr there);
  there = λ q there. h.there q (inr there);
}
  where
    pair : (v : V) → v ≡ p.1 → p ≡ (view, v)
    pair v here = same_pair view p same ∙ ap (λ (w : V). (view, w)) (sym here)

    next : (w : V) → IsIn (view, w) left → cmp p.1 w ≡ Less
    next w later = same_view_less cmp p.0 view p.1 w same (each_in (λ q. at_view_cmp cmp p q ≡ Less) left (view, w) h.sorted.0 later)

pub listing_more : {V : Type 0} (cmp : V → V → Ordering) (keys : List (View × V)) (view : View) (found more : List V) (p : View × V) (was left : List (View × V))
    → p.0 ≡ view → was ≡ p ∷ left → more ≡ found ++ p.1 ∷ [] → IsListing cmp keys view found was → IsListing cmp keys view more left
listing_more {V} cmp keys view found more p was left same e new h =
    let L : List (View × V) → Type 0 = λ xs. IsListing cmp keys view found xs in
    let F : List V → Type 0 = λ xs. IsListing cmp keys view xs left in
    subst F (sym new) (one_more cmp keys view found p left same (subst L e h))

-- the next pair is of a later view, and so are all behind it
later_view : {V : Type 0} (cmp : V → V → Ordering) (view : View) (p : View × V) (v : V) → p.0 ≢ view → is_gt (view_cmp view p.0) ≡ false
    → at_view_cmp cmp p (view, v) ≢ Less
later_view cmp view p v other from less = by (view_cmp view p.0) refl from
  where
    by : (o : Ordering) → view_cmp view p.0 ≡ o → is_gt o ≡ false → ⊥
    by Less e f =
        let back : view_cmp p.0 view ≡ Greater = view_cmp_total.antisymm p.0 view ∙ ap ordering_reverse e in
        let P : Ordering → Type 0 = λ o. ordering_then o (cmp p.1 v) ≡ Less in
        let wrong : Greater ≡ Less = subst P back less in
        cc
    by Equal e f = other (sym (exact_views view p.0 e))
    by Greater e f = cc

pub listing_stops : {V : Type 0} (cmp : V → V → Ordering) (keys : List (View × V)) (view : View) (found : List V) (p : View × V) (was left : List (View × V))
    → p.0 ≢ view → was ≡ p ∷ left → IsListing cmp keys view found was → AreAllRising cmp (λ v. IsIn (view, v) keys) found
listing_stops {V} cmp keys view found p was left other e h = by (let L : List (View × V) → Type 0 = λ xs. IsListing cmp keys view found xs in subst L e h)
  where
    by : IsListing cmp keys view found (p ∷ left) → AreAllRising cmp (λ v. IsIn (view, v) keys) found
    by k = record {
      rising = k.rising;
      each = k.each;
      all = λ v there. elim (k.all v there) [
        | inl old ↦ old
        | inr then ↦ elim then [
          | inl here ↦ absurd (other (sym (ap (λ (q : View × V). q.0) here)))
          | inr later ↦ absurd (later_view cmp view p v other (k.from p (inl refl)) (each_in (λ q. at_view_cmp cmp p q ≡ Less) left (view, v) k.sorted.0 later))
        ]
      ];
    }

pub listing_ends : {V : Type 0} (cmp : V → V → Ordering) (keys : List (View × V)) (view : View) (found : List V) (left : List (View × V))
    → left ≡ [] → IsListing cmp keys view found left → AreAllRising cmp (λ v. IsIn (view, v) keys) found
listing_ends {V} cmp keys view found left none h = record {
  rising = h.rising;
  each = h.each;
  all = λ v there. elim (h.all v there) [
    | inl was ↦ was
    | inr later ↦ absurd (let I : List (View × V) → Type 0 = λ xs. IsIn (view, v) xs in subst I none later)
  ];
}
