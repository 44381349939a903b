-- The first places of names, as further names are added.
use Rattle.std.proofs.Common.{◌≡◌, ℕ, suc, ◌+◌, ◌<◌, Bool, true, false, not, cond, List, [], ◌∷◌, ◌++◌, length, Option, None, Some, option_map, option_and_then, slice_get, refl, sym, ap, ◌∙◌, arith, length-append, is_some}
use Rattle.std.specs.Option.{option_or}
use Rattle.std.specs.List.{list_any}
use Rattle.list_defs.specs.Members.{place_of, same_name}
use Rattle.std.proofs.lemmas.Bool.{false≢true, true≢false}
use Rattle.list_defs.proofs.NameLemmas.{is_some-place_of, place_of-within, same_name-equal}
use Rattle.list_defs.proofs.Longer.{slice_get-append, slice_get_last}
use Rattle.design_defs.proofs.WalkEnds.{there_within}
use Rattle.net_hierarchy.specs.Kinds.{AreFirsts, first_place}
use Rattle.net_hierarchy.specs.declared.firsts.Firsts.{Firsts}

-- one more at the end is found there, where nothing before it is
pub place_of-push : {X : Type 0} (test : X → Bool) (xs : List X) (x : X)
    → place_of test (xs ++ x ∷ []) ≡ option_or (place_of test xs) (cond (test x) (Some (length xs)) None)
place_of-push test [] x = by (test x)
  where
    by : (b : Bool) → cond b (Some 0) (option_map suc None) ≡ cond b (Some 0) None
    by true = refl
    by false = refl
place_of-push test (y ∷ ys) x = rw (place_of-push test ys x) (by (test y) (place_of test ys) (test x))
  where
    by : (b : Bool) (o : Option ℕ) (last : Bool)
        → cond b (Some 0) (option_map suc (option_or o (cond last (Some (length ys)) None))) ≡ option_or (cond b (Some 0) (option_map suc o)) (cond last (Some (suc (length ys))) None)
    by true o last = refl
    by false None true = refl
    by false None false = refl
    by false (Some m) last = refl

-- a name that the table has leads somewhere
leads : (names : List (List ℕ)) (f : Firsts) → AreFirsts names f → (name : List ℕ) (at : ℕ) → place_of (same_name name) f.index ≡ Some at
    → (place : ℕ) × (slice_get f.places.items at ≡ Some place) × (place_of (same_name name) names ≡ Some place)
leads names f are name at e =
    let below : at < length f.index = place_of-within (same_name name) f.index at e in
    let count : length f.places.items ≡ length f.index = are.count in
    let there = there_within f.places.items at (omega arith) in
    let found : first_place f name ≡ place_of (same_name name) names = are.found name in
    (there.0, there.1, sym found ∙ rw e there.1)

nowhere : (names : List (List ℕ)) (f : Firsts) → AreFirsts names f → (name : List ℕ) → place_of (same_name name) f.index ≡ None → place_of (same_name name) names ≡ None
nowhere names f are name e = sym (are.found name) ∙ rw e refl

-- a name that the table has already changes nothing
pub firsts_again : (names : List (List ℕ)) (f : Firsts) → AreFirsts names f → (name : List ℕ) (at : ℕ) → place_of (same_name name) f.index ≡ Some at
    → AreFirsts (names ++ name ∷ []) f
firsts_again names f are name at e = record { count = are.count; found = found }
  where
    found : (other : List ℕ) → first_place f other ≡ place_of (same_name other) (names ++ name ∷ [])
    found other = are.found other ∙ sym (place_of-push (same_name other) names name ∙ by (same_name other name) refl)
      where
        by : (b : Bool) → same_name other name ≡ b → option_or (place_of (same_name other) names) (cond b (Some (length names)) None) ≡ place_of (same_name other) names
        by true same =
            let equal : other ≡ name = same_name-equal other name same in
            let there = leads names f are name at e in
            rw (equal, there.2) refl
        by false differ = keep (place_of (same_name other) names)
          where
            keep : (o : Option ℕ) → option_or o None ≡ o
            keep None = refl
            keep (Some n) = refl

-- a new name leads to its place
pub firsts_more : (names : List (List ℕ)) (f more : Firsts) → AreFirsts names f → (name : List ℕ) → place_of (same_name name) f.index ≡ None
    → more.index ≡ f.index ++ name ∷ [] → more.places.items ≡ f.places.items ++ length names ∷ [] → AreFirsts (names ++ name ∷ []) more
firsts_more names f more are name e index places = record { count = simp (index, places, length-append) (ap (λ (n : ℕ). n + 1) are.count); found = found }
  where
    count : length f.places.items ≡ length f.index
    count = are.count

    found : (other : List ℕ) → first_place more other ≡ place_of (same_name other) (names ++ name ∷ [])
    found other =
        rw (index, places, place_of-push (same_name other) f.index name, place_of-push (same_name other) names name) (of_old (place_of (same_name other) f.index) refl (same_name other name) refl)
      where
        of_old : (o : Option ℕ) → place_of (same_name other) f.index ≡ o → (b : Bool) → same_name other name ≡ b
            → option_and_then (slice_get (f.places.items ++ length names ∷ [])) (option_or o (cond b (Some (length f.index)) None))
            ≡ option_or (place_of (same_name other) names) (cond b (Some (length names)) None)
        of_old (Some at) known b same =
            let there = leads names f are other at known in
            rw (slice_get-append f.places.items (length names ∷ []) at there.0 there.1, there.2) refl
        of_old None unknown true same = rw (nowhere names f are other unknown, slice_get_last f.places.items (length names) (length f.index) (sym count)) refl
        of_old None unknown false differ = rw (nowhere names f are other unknown) refl

pub new_place : (x : List ℕ) (xs : List (List ℕ)) → not (list_any (same_name x) xs) ≡ true → place_of (same_name x) xs ≡ None
new_place x xs new = by (place_of (same_name x) xs) (is_some-place_of (same_name x) xs)
  where
    by : (o : Option ℕ) → is_some o ≡ list_any (same_name x) xs → o ≡ None
    by None e = refl
    by (Some n) e = absurd (false≢true (ap not e ∙ new))

pub old_place : (x : List ℕ) (xs : List (List ℕ)) → not (list_any (same_name x) xs) ≡ false → (n : ℕ) × (place_of (same_name x) xs ≡ Some n)
old_place x xs old = by (place_of (same_name x) xs) refl (is_some-place_of (same_name x) xs)
  where
    by : (o : Option ℕ) → place_of (same_name x) xs ≡ o → is_some o ≡ list_any (same_name x) xs → (n : ℕ) × (place_of (same_name x) xs ≡ Some n)
    by None at e = absurd (true≢false (ap not e ∙ old))
    by (Some n) at e = (n, at)
