-- What names stand for once one more name, or one less, stands for something.
use Rattle.std.proofs.Common.{◌≡◌, ◌≢◌, ℕ, suc, ◌<◌, Bool, true, false, List, [], ◌∷◌, ◌++◌, length, get_or, set, Option, Some, None, option_map, slice_get, option_and_then, if◌then◌else◌, refl, sym, ap, ◌∙◌, subst, arith}
use Rattle.std.specs.Option.{unwrap_or}
use Rattle.std.proofs.lemmas.Option.{slice_get-get_or}
use Rattle.list_defs.specs.Members.{place_of, same_name}
use Rattle.list_defs.proofs.Longer.{slice_get-append, slice_get_last, slice_get-set_same, slice_get-set_other}
use Rattle.list_defs.proofs.NameLemmas.{same_name-equal, same_name-itself, same_name-symmetric, slice_get-place_of, place_of-within}
use Rattle.supply_net.specs.declared.names.Object.{Object}
use Rattle.supply_net.specs.Names.{NameTable, object_in}

abbrev table : List (List ℕ) → List (Option Object) → NameTable
table names objects = record { names = names; objects = objects }

abbrev at_place : List (Option Object) → Option ℕ → Option Object
at_place objects place = unwrap_or (option_and_then (slice_get objects) place) None

-- what fails the test is found nowhere
place_of-other : {X : Type 0} (test : X → Bool) (xs : List X) (x : X) → test x ≡ false → place_of test (xs ++ x ∷ []) ≡ place_of test xs
place_of-other test [] x e = rw e refl
place_of-other test (y ∷ ys) x e = ap (λ (o : Option ℕ). if test y then Some 0 else option_map suc o) (place_of-other test ys x e)

first_place : (b : Bool) (o p : Option ℕ) (n m : ℕ) → m ≡ suc n → (o ≡ None → p ≡ Some n) → (if b then Some 0 else option_map suc o) ≡ None
    → (if b then Some 0 else option_map suc p) ≡ Some m
first_place true o p n m next last e = cc
first_place false None p n m next last e = ap (option_map suc) (last refl) ∙ ap Some (sym next)
first_place false (Some k) p n m next last e = cc

-- a name that is found nowhere is found behind the others
place_of-last : (name : List ℕ) (xs : List (List ℕ)) → place_of (same_name name) xs ≡ None → place_of (same_name name) (xs ++ name ∷ []) ≡ Some (length xs)
place_of-last name [] e = rw (same_name-itself name) refl
place_of-last name (x ∷ xs) e =
    first_place (same_name name x) (place_of (same_name name) xs) (place_of (same_name name) (xs ++ name ∷ [])) (length xs) (length (x ∷ xs)) (omega arith)
    (place_of-last name xs) e

-- a name has one place
other_place : (names : List (List ℕ)) (name other : List ℕ) (p q : ℕ) → same_name name other ≡ false → place_of (same_name name) names ≡ Some p
    → place_of (same_name other) names ≡ Some q → q ≢ p
other_place names name other p q differ here there same =
    let S : ℕ → Type 0 = λ n. slice_get names n ≡ Some other in
    let first : slice_get names p ≡ Some name = slice_get-place_of name names p here in
    let second : slice_get names p ≡ Some other = subst S same (slice_get-place_of other names q there) in
    let one : name ≡ other = cc in
    let T : List ℕ → Type 0 = λ n. same_name name n ≡ true in
    let yes : same_name name other ≡ true = subst T one (same_name-itself name) in
    cc

-- at a place of the table
pub set_there : (names : List (List ℕ)) (objects : List (Option Object)) (name : List ℕ) (o : Option Object) (place : ℕ) → length objects ≡ length names
    → place_of (same_name name) names ≡ Some place
    → object_in (table names (set objects place o)) ≡ (λ other. if same_name name other then o else object_in (table names objects) other)
set_there names objects name o place count here = λ i. λ other. each other i
  where
    within : place < length objects
    within = let w = place_of-within (same_name name) names place here in omega arith

    otherwise : (other : List ℕ) → same_name name other ≡ false → (q : Option ℕ) → place_of (same_name other) names ≡ q
        → at_place (set objects place o) q ≡ at_place objects q
    otherwise other differ None e = refl
    otherwise other differ (Some q) e =
        ap (λ (x : Option (Option Object)). unwrap_or x None) (slice_get-set_other objects place q o (other_place names name other place q differ here e))

    by : (other : List ℕ) (b : Bool) → same_name name other ≡ b → at_place (set objects place o) (place_of (same_name other) names)
        ≡ (if b then o else at_place objects (place_of (same_name other) names))
    by other true e =
        let P : List ℕ → Type 0 = λ n. place_of (same_name n) names ≡ Some place in
        let there : place_of (same_name other) names ≡ Some place = subst P (same_name-equal name other e) here in
        rw (there, slice_get-set_same objects place o within) refl
    by other false e = otherwise other e (place_of (same_name other) names) refl

    each : (other : List ℕ) → object_in (table names (set objects place o)) other ≡ (if same_name name other then o else object_in (table names objects) other)
    each other = by other (same_name name other) refl

-- behind the table
pub put_behind : (names : List (List ℕ)) (objects : List (Option Object)) (name : List ℕ) (o : Option Object) → length objects ≡ length names
    → place_of (same_name name) names ≡ None
    → object_in (table (names ++ name ∷ []) (objects ++ o ∷ [])) ≡ (λ other. if same_name name other then o else object_in (table names objects) other)
put_behind names objects name o count none = λ i. λ other. each other i
  where
    otherwise : (other : List ℕ) (q : Option ℕ) → place_of (same_name other) names ≡ q → at_place (objects ++ o ∷ []) q ≡ at_place objects q
    otherwise other None e = refl
    otherwise other (Some q) e =
        let within : q < length objects = let w = place_of-within (same_name other) names q e in omega arith in
        let old : slice_get objects q ≡ Some (get_or objects q None) = slice_get-get_or objects q None within in
        let new : slice_get (objects ++ o ∷ []) q ≡ Some (get_or objects q None) = slice_get-append objects (o ∷ []) q (get_or objects q None) old in
        ap (λ (x : Option (Option Object)). unwrap_or x None) (new ∙ sym old)

    by : (other : List ℕ) (b : Bool) → same_name name other ≡ b → at_place (objects ++ o ∷ []) (place_of (same_name other) (names ++ name ∷ []))
        ≡ (if b then o else at_place objects (place_of (same_name other) names))
    by other true e =
        let P : List ℕ → Type 0 = λ n. place_of (same_name n) (names ++ name ∷ []) ≡ Some (length names) in
        let there : place_of (same_name other) (names ++ name ∷ []) ≡ Some (length names) = subst P (same_name-equal name other e) (place_of-last name names none) in
        rw (there, slice_get_last objects o (length names) (sym count)) refl
    by other false e =
        let same : place_of (same_name other) (names ++ name ∷ []) ≡ place_of (same_name other) names =
        place_of-other (same_name other) names name (same_name-symmetric other name ∙ e) in
        ap (at_place (objects ++ o ∷ [])) same ∙ otherwise other (place_of (same_name other) names) refl

    each : (other : List ℕ) → object_in (table (names ++ name ∷ []) (objects ++ o ∷ [])) other
        ≡ (if same_name name other then o else object_in (table names objects) other)
    each other = by other (same_name name other) refl

-- two tables of the same parts
pub same_table : (names names' : List (List ℕ)) (objects objects' : List (Option Object)) → names ≡ names' → objects ≡ objects'
    → object_in (table names objects) ≡ object_in (table names' objects')
same_table names names' objects objects' n o = λ i. object_in (record { names = n i; objects = o i })
