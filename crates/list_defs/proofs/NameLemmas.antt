-- Lemmas on names, on places in a list, and on lists in which no two names are the same.
use Rattle.std.proofs.Common.{◌≡◌, ℕ, zero, suc, Bool, true, false, not, ◌&&◌, ◌||◌, cond, List, [], ◌∷◌, ◌++◌, Option, None, Some, slice_get, refl, sym, ap, subst, ◌∙◌, inl, inr, is_some, ◌+◌, ◌<◌, ltb, length, map, arith}
use Rattle.std.proofs.lemmas.Bool.{and_parts, false≢true, true≢false, lt-ltb, le-ltb, ltb-true, ltb-false}
use Rattle.std.proofs.lemmas.List.Folds.{list_any-append}
use Rattle.std.specs.List.{list_any, position, position_or_len}
use Rattle.std.specs.Option.{option_map}
use Rattle.std.specs.Cmp.Lexicographic.{bytes_decides, nat_list_eq_equiv}
use Rattle.list_defs.specs.Members.{IsIn, all_differ, place_of, same_name}

pub same_name-equal : (x y : List ℕ) → same_name x y ≡ true → x ≡ y
same_name-equal x y e = (bytes_decides x y).0 e

pub same_name-itself : (x : List ℕ) → same_name x x ≡ true
same_name-itself x = (bytes_decides x x).1 refl

pub same_name-symmetric : (x y : List ℕ) → same_name x y ≡ same_name y x
same_name-symmetric x y = nat_list_eq_equiv.symm x y

-- a test finds a place exactly where something passes it
pub is_some-place_of : {X : Type 0} (test : X → Bool) (xs : List X) → is_some (place_of test xs) ≡ list_any test xs
is_some-place_of test [] = refl
is_some-place_of test (x ∷ xs) = by (test x) (place_of test xs) (is_some-place_of test xs)
  where
    by : (b : Bool) (o : Option ℕ) → is_some o ≡ list_any test xs → is_some (cond b (Some 0) (option_map suc o)) ≡ (b || list_any test xs)
    by true o h = refl
    by false None h = h
    by false (Some n) h = h

-- a place is within the list
pub place_of-within : {X : Type 0} (test : X → Bool) (xs : List X) (n : ℕ) → place_of test xs ≡ Some n → n < length xs
place_of-within test [] n h = cc
place_of-within test (x ∷ xs) n h = by (test x) (place_of test xs) (place_of-within test xs) h
  where
    by : (b : Bool) (o : Option ℕ) → ((m : ℕ) → o ≡ Some m → m < length xs) → cond b (Some 0) (option_map suc o) ≡ Some n → n < length (x ∷ xs)
    by true o rest h =
        let here : 0 ≡ n = cc in
        omega arith
    by false None rest h = cc
    by false (Some m) rest h =
        let behind : suc m ≡ n = cc in
        let within : m < length xs = rest m refl in
        omega arith

-- the place is what std's `position` answers
pub place_of-position : {X : Type 0} (test : X → Bool) (xs : List X) → place_of test xs ≡ position test xs
place_of-position test [] = refl
place_of-position test (x ∷ xs) = by (test x) (position_or_len test xs) (place_of-position test xs)
  where
    shown : (n m : ℕ) (b : Bool) → ltb (1 + n) (suc m) ≡ b → option_map suc (cond (ltb n m) (Some n) None) ≡ cond b (Some (1 + n)) None
    shown n m true below = rw (lt-ltb n m (omega (arith, ltb-true (1 + n) (suc m) below))) (ap Some (omega arith))
    shown n m false past = rw (le-ltb n m (omega (arith, ltb-false (1 + n) (suc m) past))) refl

    by : (b : Bool) (n : ℕ) → place_of test xs ≡ cond (ltb n (length xs)) (Some n) None
        → cond b (Some 0) (option_map suc (place_of test xs)) ≡ cond (ltb (cond (not b) (1 + n) 0) (suc (length xs))) (Some (cond (not b) (1 + n) 0)) None
    by true n h = rw (lt-ltb 0 (suc (length xs)) (omega arith)) refl
    by false n h = ap (option_map suc) h ∙ shown n (length xs) (ltb (1 + n) (suc (length xs))) refl

-- a test of the names that things have
pub place_of-map : {X Y : Type 0} (f : X → Y) (test : Y → Bool) (xs : List X) → place_of test (map f xs) ≡ place_of (λ x. test (f x)) xs
place_of-map f test [] = refl
place_of-map f test (x ∷ xs) = ap (λ o. cond (test (f x)) (Some 0) (option_map suc o)) (place_of-map f test xs)

pub list_any-map : {X Y : Type 0} (f : X → Y) (test : Y → Bool) (xs : List X) → list_any test (map f xs) ≡ list_any (λ x. test (f x)) xs
list_any-map f test [] = refl
list_any-map f test (x ∷ xs) = ap (λ b. test (f x) || b) (list_any-map f test xs)

-- what stands at the place of a name is the name
pub slice_get-place_of : (x : List ℕ) (xs : List (List ℕ)) (n : ℕ) → place_of (same_name x) xs ≡ Some n → slice_get xs n ≡ Some x
slice_get-place_of x [] n h = cc
slice_get-place_of x (y ∷ ys) n h = by (same_name x y) refl (place_of (same_name x) ys) refl (slice_get-place_of x ys) h
  where
    by : (b : Bool) → same_name x y ≡ b → (o : Option ℕ) → place_of (same_name x) ys ≡ o → ((m : ℕ) → place_of (same_name x) ys ≡ Some m → slice_get ys m ≡ Some x) → cond b (Some 0) (option_map suc o) ≡ Some n → slice_get (y ∷ ys) n ≡ Some x
    by true e o p rest h =
        let here : 0 ≡ n = cc in
        subst (λ k. slice_get (y ∷ ys) k ≡ Some x) here (ap Some (sym (same_name-equal x y e)))
    by false e None p rest h = cc
    by false e (Some m) p rest h =
        let behind : suc m ≡ n = cc in
        subst (λ k. slice_get (y ∷ ys) k ≡ Some x) behind (rest m p)

-- a name is one of the list exactly where the test of sameness finds it
pub IsIn-list_any : (x : List ℕ) (xs : List (List ℕ)) → list_any (same_name x) xs ≡ true → IsIn x xs
IsIn-list_any x [] h = absurd (false≢true h)
IsIn-list_any x (y ∷ ys) h = by (same_name x y) refl (IsIn-list_any x ys) h
  where
    by : (b : Bool) → same_name x y ≡ b → (list_any (same_name x) ys ≡ true → IsIn x ys) → (b || list_any (same_name x) ys) ≡ true → IsIn x (y ∷ ys)
    by true e rest h = inl (same_name-equal x y e)
    by false e rest h = inr (rest h)

pub list_any-IsIn : (x : List ℕ) (xs : List (List ℕ)) → IsIn x xs → list_any (same_name x) xs ≡ true
list_any-IsIn x [] h = absurd h
list_any-IsIn x (y ∷ ys) (inl e) = rw (subst (λ z. same_name x z ≡ true) e (same_name-itself x)) refl
list_any-IsIn x (y ∷ ys) (inr h) = by (same_name x y) (list_any-IsIn x ys h)
  where
    by : (b : Bool) → list_any (same_name x) ys ≡ true → (b || list_any (same_name x) ys) ≡ true
    by true rest = refl
    by false rest = rest

-- a name has no place exactly where it is not one of the list
pub absent-place_of : (x : List ℕ) (xs : List (List ℕ)) → place_of (same_name x) xs ≡ None → ¬ IsIn x xs
absent-place_of x xs none there =
    true≢false (sym (list_any-IsIn x xs there) ∙ sym (is_some-place_of (same_name x) xs) ∙ ap is_some none)

pub place_of-absent : (x : List ℕ) (xs : List (List ℕ)) → ¬ IsIn x xs → place_of (same_name x) xs ≡ None
place_of-absent x xs absent = by (place_of (same_name x) xs) refl
  where
    by : (o : Option ℕ) → place_of (same_name x) xs ≡ o → o ≡ None
    by None e = refl
    by (Some n) e = absurd (absent (IsIn-list_any x xs (sym (is_some-place_of (same_name x) xs) ∙ ap is_some e)))

-- a name that stands somewhere is found
pub list_any-slice_get : (x : List ℕ) (xs : List (List ℕ)) (n : ℕ) → slice_get xs n ≡ Some x → list_any (same_name x) xs ≡ true
list_any-slice_get x [] n at = cc
list_any-slice_get x (y ∷ ys) zero at =
    let same : y ≡ x = cc in
    rw (subst (λ z. same_name x z ≡ true) (sym same) (same_name-itself x)) refl
list_any-slice_get x (y ∷ ys) (suc n) at = by (same_name x y) (list_any-slice_get x ys n at)
  where
    by : (b : Bool) → list_any (same_name x) ys ≡ true → (b || list_any (same_name x) ys) ≡ true
    by true rest = refl
    by false rest = rest

and_first : (a b : Bool) → (a && b) ≡ true → a ≡ true
and_first true b h = refl
and_first false b h = h

and_last : (a b : Bool) → (a && b) ≡ true → b ≡ true
and_last true b h = h
and_last false b h = absurd (false≢true h)

-- where no two names are the same, the place of a name is that at which it stands
pub place_of-own : (x : List ℕ) (xs : List (List ℕ)) (n : ℕ) → all_differ same_name xs ≡ true → slice_get xs n ≡ Some x → place_of (same_name x) xs ≡ Some n
place_of-own x [] n differ at = cc
place_of-own x (y ∷ ys) zero differ at =
    let same : y ≡ x = cc in
    rw (subst (λ z. same_name x z ≡ true) (sym same) (same_name-itself x)) refl
place_of-own x (y ∷ ys) (suc n) differ at =
    by (same_name x y) refl (place_of-own x ys n (and_last (not (list_any (same_name y) ys)) _ differ) at)
  where
    by : (b : Bool) → same_name x y ≡ b → place_of (same_name x) ys ≡ Some n → cond b (Some 0) (option_map suc (place_of (same_name x) ys)) ≡ Some (suc n)
    by true e rest =
        let there : list_any (same_name y) ys ≡ true = list_any-slice_get y ys n (at ∙ ap Some (same_name-equal x y e)) in
        absurd (false≢true (sym (ap not there) ∙ and_first (not (list_any (same_name y) ys)) _ differ))
    by false e rest = ap (option_map suc) rest

and_or_push : (a b d e : Bool) → (not (a || (e || false)) && (d && not b)) ≡ ((not a && d) && not (e || b))
and_or_push true b d e = refl
and_or_push false b true true = refl
and_or_push false b true false = refl
and_or_push false b false true = refl
and_or_push false b false false = refl

-- a name that is added at the end leaves no two the same exactly where it is not there
pub all_differ-push : (xs : List (List ℕ)) (x : List ℕ) → all_differ same_name (xs ++ x ∷ []) ≡ (all_differ same_name xs && not (list_any (same_name x) xs))
all_differ-push [] x = refl
all_differ-push (y ∷ ys) x =
    rw (list_any-append (same_name y) ys (x ∷ []), all_differ-push ys x, same_name-symmetric x y) (and_or_push (list_any (same_name y) ys) (list_any (same_name x) ys) (all_differ same_name ys) (same_name y x))

or_true : (b : Bool) → (b || true) ≡ true
or_true true = refl
or_true false = refl

and_false : (a b : Bool) → b ≡ false → (a && b) ≡ false
and_false true b h = h
and_false false b h = refl

-- a name that stands in front of itself makes two that are the same
pub all_differ-again : (xs : List (List ℕ)) (x : List ℕ) (more : List (List ℕ)) → list_any (same_name x) xs ≡ true → all_differ same_name (xs ++ x ∷ more) ≡ false
all_differ-again [] x more h = absurd (false≢true h)
all_differ-again (y ∷ ys) x more h = by (same_name x y) refl (all_differ-again ys x more) h
  where
    again : same_name x y ≡ true → list_any (same_name y) (ys ++ x ∷ more) ≡ true
    again e =
        rw (list_any-append (same_name y) ys (x ∷ more), same_name-symmetric y x, e) (or_true (list_any (same_name y) ys))

    by : (b : Bool) → same_name x y ≡ b → (list_any (same_name x) ys ≡ true → all_differ same_name (ys ++ x ∷ more) ≡ false) → (b || list_any (same_name x) ys) ≡ true → all_differ same_name (y ∷ (ys ++ x ∷ more)) ≡ false
    by true e rest h = ap (λ b. not b && all_differ same_name (ys ++ x ∷ more)) (again e)
    by false e rest h = and_false (not (list_any (same_name y) (ys ++ x ∷ more))) _ (rest h)

-- of names that differ those behind a front differ
pub differ_behind : (xs ys : List (List ℕ)) → all_differ same_name (xs ++ ys) ≡ true → all_differ same_name ys ≡ true
differ_behind [] ys e = e
differ_behind (x ∷ xs) ys e = differ_behind xs ys (and_parts (not (list_any (same_name x) (xs ++ ys))) (all_differ same_name (xs ++ ys)) e).1
