-- Rows of which one is changed, and what each row stands for.
use Rattle.std.proofs.Common.{◌≡◌, ℕ, suc, zero, Bool, true, false, not, ◌||◌, List, [], ◌∷◌, ◌++◌, length, set, Option, Some, None, option_map, option_and_then, slice_get, find, map, if◌then◌else◌, refl, sym, ap, subst, ◌∙◌}
use Rattle.std.proofs.lemmas.Bool.{and_parts, false≢true, true≢false}
use Rattle.std.proofs.lemmas.List.{length-map, map-append}
use Rattle.std.proofs.lemmas.List.Elements.{All-cons, All-head, All-tail}
use Rattle.std.proofs.lemmas.Option.{slice_get-map}
use Rattle.std.specs.List.{All, list_any}
use Rattle.list_defs.specs.Members.{all_differ, place_of, same_name}
use Rattle.list_defs.proofs.NameLemmas.{list_any-slice_get, same_name-equal, same_name-itself}
use Rattle.named_rows.specs.Rows.{names_in, rows_in, with_row}

none_some : {X : Type 0} {x : X} → None ≡ Some x → ⊥
none_some e = cc

pub names_in-with_row : {X : Type 0} (rows : List (List ℕ × X)) (n : ℕ) (row : X) → names_in (with_row rows n row) ≡ names_in rows
names_in-with_row [] n row = refl
names_in-with_row (p ∷ rows) zero row = refl
names_in-with_row (p ∷ rows) (suc n) row = ap (λ names. p.0 ∷ names) (names_in-with_row rows n row)

-- a row with its name
pub row_at : {X : Type 0} (rows : List (List ℕ × X)) (n : ℕ) (name : List ℕ) (row : X) → slice_get (names_in rows) n ≡ Some name → slice_get (rows_in rows) n ≡ Some row
    → slice_get rows n ≡ Some (name, row)
row_at [] n name row named there = absurd (none_some named)
row_at (p ∷ rows) zero name row named there =
    let first : p.0 ≡ name = cc in
    let second : p.1 ≡ row = cc in
    ap (λ own. Some (own, p.1)) first ∙ ap (λ own. Some (name, own)) second
row_at (p ∷ rows) (suc n) name row named there = row_at rows n name row named there

-- what holds of all rows, and of another one
pub All-with_row : {X : Type 0} (P : List ℕ × X → Type 0) (rows : List (List ℕ × X)) (n : ℕ) (row : X) → ((name : List ℕ) → P (name, row)) → All P rows
    → All P (with_row rows n row)
All-with_row P [] n row own all = all
All-with_row P (p ∷ rows) zero row own all = All-cons P (p.0, row) rows (own p.0) (All-tail P p rows all)
All-with_row P (p ∷ rows) (suc n) row own all = All-cons P p (with_row rows n row) (All-head P p rows all) (All-with_row P rows n row own (All-tail P p rows all))

-- the same, where the row that was there says something of its name
pub All-other_row : {X : Type 0} (P : List ℕ × X → Type 0) (rows : List (List ℕ × X)) (n : ℕ) (old row : X) → slice_get (rows_in rows) n ≡ Some old
    → ((name : List ℕ) → P (name, old) → P (name, row)) → All P rows → All P (with_row rows n row)
All-other_row P [] n old row there own all = all
All-other_row {X} P (p ∷ rows) zero old row there own all =
    let here : p.1 ≡ old = cc in
    let Q : X → Type 0 = λ r. P (p.0, r) in
    All-cons P (p.0, row) rows (own p.0 (subst Q here (All-head P p rows all))) (All-tail P p rows all)
All-other_row P (p ∷ rows) (suc n) old row there own all =
    All-cons P p (with_row rows n row) (All-head P p rows all) (All-other_row P rows n old row there own (All-tail P p rows all))

-- what holds of all rows holds of each
pub row_holds : {X : Type 0} (P : X → Type 0) (rows : List (List ℕ × X)) (n : ℕ) (row : X) → All (λ (p : List ℕ × X). P p.1) rows
    → slice_get (rows_in rows) n ≡ Some row → P row
row_holds P [] n row all there = absurd (none_some there)
row_holds {X} P (p ∷ rows) zero row all there =
    let here : p.1 ≡ row = cc in
    subst P here (All-head (λ (q : List ℕ × X). P q.1) p rows all)
row_holds {X} P (p ∷ rows) (suc n) row all there = row_holds P rows n row (All-tail (λ (q : List ℕ × X). P q.1) p rows all) there

-- what is read of what a row stands for
pub read_row : {X Y A : Type 0} (see : List ℕ × X → Y) (f : Y → A) (rows : List (List ℕ × X)) (n : ℕ) (row : X) (a : A) → ((name : List ℕ) → f (see (name, row)) ≡ a)
    → slice_get (rows_in rows) n ≡ Some row → option_map f (slice_get (map see rows) n) ≡ Some a
read_row see f [] n row a same there = absurd (none_some there)
read_row see f (p ∷ rows) zero row a same there =
    let here : p.1 ≡ row = cc in
    ap (λ own. Some (f (see (p.0, own)))) here ∙ ap Some (same p.0)
read_row see f (p ∷ rows) (suc n) row a same there = read_row see f rows n row a same there

-- the row that was put at a place
pub row_put : {X : Type 0} (rows : List (List ℕ × X)) (n : ℕ) (old row : X) → slice_get (rows_in rows) n ≡ Some old → slice_get (rows_in (with_row rows n row)) n ≡ Some row
row_put [] n old row there = absurd (none_some there)
row_put (p ∷ rows) zero old row there = refl
row_put (p ∷ rows) (suc n) old row there = row_put rows n old row there

-- a row put in its own place
pub with_row_same : {X : Type 0} (rows : List (List ℕ × X)) (n : ℕ) (row : X) → slice_get (rows_in rows) n ≡ Some row → with_row rows n row ≡ rows
with_row_same [] n row there = refl
with_row_same (p ∷ rows) zero row there =
    let here : p.1 ≡ row = cc in
    ap (λ own. (p.0, own) ∷ rows) (sym here)
with_row_same (p ∷ rows) (suc n) row there = ap (λ more. p ∷ more) (with_row_same rows n row there)

-- what the rows stand for
pub map-with_row : {X Y : Type 0} (f : List ℕ × X → Y) (rows : List (List ℕ × X)) (n : ℕ) (row : X) (name : List ℕ) → slice_get (names_in rows) n ≡ Some name
    → map f (with_row rows n row) ≡ set (map f rows) n (f (name, row))
map-with_row f [] n row name e = refl
map-with_row f (p ∷ rows) zero row name e =
    let same : p.0 ≡ name = cc in
    ap (λ own. f (own, row) ∷ map f rows) same
map-with_row f (p ∷ rows) (suc n) row name e = ap (λ ys. f p ∷ ys) (map-with_row f rows n row name e)

-- another row that stands for the same
pub map-same_row : {X Y : Type 0} (see : List ℕ × X → Y) (rows : List (List ℕ × X)) (n : ℕ) (old row : X) → slice_get (rows_in rows) n ≡ Some old
    → ((name : List ℕ) → see (name, row) ≡ see (name, old)) → map see (with_row rows n row) ≡ map see rows
map-same_row see [] n old row there same = refl
map-same_row see (p ∷ rows) zero old row there same =
    let here : p.1 ≡ old = cc in
    ap (λ y. y ∷ map see rows) (same p.0 ∙ ap (λ own. see (p.0, own)) (sym here))
map-same_row see (p ∷ rows) (suc n) old row there same = ap (λ ys. see p ∷ ys) (map-same_row see rows n old row there same)

-- the thing at the first place that passes a test is the first one
pub find-place_of : {X : Type 0} (test : X → Bool) (xs : List X) → option_and_then (slice_get xs) (place_of test xs) ≡ find test xs
find-place_of test [] = refl
find-place_of test (x ∷ xs) = first (test x) (place_of test xs) (find-place_of test xs)
  where
    first : (b : Bool) (o : Option ℕ) → option_and_then (slice_get xs) o ≡ find test xs
        → option_and_then (slice_get (x ∷ xs)) (if b then Some 0 else option_map suc o) ≡ (if b then Some x else find test xs)
    first true o e = refl
    first false None e = e
    first false (Some n) e = e

or_parts : (a b : Bool) → (a || b) ≡ false → (a ≡ false) × (b ≡ false)
or_parts true b e = absurd (true≢false e)
or_parts false b e = (refl, e)

not_true : (b : Bool) → not b ≡ true → b ≡ false
not_true true e = absurd (false≢true e)
not_true false e = refl

-- of a list that has the one and not the other
other_name : (name own : List ℕ) (names : List (List ℕ)) → list_any (same_name name) names ≡ true → list_any (same_name own) names ≡ false → same_name name own ≡ false
other_name name own names has lacks = by (same_name name own) refl
  where
    by : (b : Bool) → same_name name own ≡ b → same_name name own ≡ false
    by true e =
        let P : List ℕ → Type 0 = λ n. list_any (same_name n) names ≡ true in
        absurd (true≢false (sym (subst P (same_name-equal name own e) has) ∙ lacks))
    by false e = e

-- a name that no row has is found behind them
place_of-last : (name : List ℕ) (names : List (List ℕ)) → place_of (same_name name) names ≡ None → place_of (same_name name) (names ++ name ∷ []) ≡ Some (length names)
place_of-last name [] none = ap (λ b. if b then Some 0 else None) (same_name-itself name)
place_of-last name (own ∷ names) none =
    behind (same_name name own) (place_of (same_name name) names) (place_of (same_name name) (names ++ name ∷ [])) (place_of-last name names) none
  where
    behind : (b : Bool) (o p : Option ℕ) → (o ≡ None → p ≡ Some (length names)) → (if b then Some 0 else option_map suc o) ≡ None
        → (if b then Some 0 else option_map suc p) ≡ Some (suc (length names))
    behind true o p last e = absurd (none_some (sym e))
    behind false None p last e = ap (option_map suc) (last refl)
    behind false (Some n) p last e = absurd (none_some (sym e))

pub place_of-more : {X : Type 0} (name : List ℕ) (rows : List (List ℕ × X)) (row : X) → place_of (same_name name) (names_in rows) ≡ None
    → place_of (same_name name) (names_in (rows ++ (name, row) ∷ [])) ≡ Some (length rows)
place_of-more {X} name rows row none =
    ap (place_of (same_name name)) (map-append (λ (p : List ℕ × X). p.0) rows ((name, row) ∷ [])) ∙ place_of-last name (names_in rows) none
    ∙ ap Some (length-map rows (λ (p : List ℕ × X). p.0))

-- where no thing has a name, none is changed
pub none_changed : {X : Type 0} (key : X → List ℕ) (change : X → X) (name : List ℕ) (xs : List X) → list_any (same_name name) (map key xs) ≡ false
    → map (λ x. if same_name name (key x) then change x else x) xs ≡ xs
none_changed key change name [] none = refl
none_changed key change name (x ∷ xs) none =
    let parts = or_parts (same_name name (key x)) (list_any (same_name name) (map key xs)) none in
    ap (λ b. (if b then change x else x) ∷ map (λ y. if same_name name (key y) then change y else y) xs) parts.0
    ∙ ap (λ ys. x ∷ ys) (none_changed key change name xs parts.1)

-- where things differ by name, the one of a name is changed, at its place
pub changed_at : {X : Type 0} (key : X → List ℕ) (change : X → X) (name : List ℕ) (xs : List X) (n : ℕ) (x : X) → all_differ same_name (map key xs) ≡ true
    → slice_get xs n ≡ Some x → key x ≡ name → set xs n (change x) ≡ map (λ y. if same_name name (key y) then change y else y) xs
changed_at key change name [] n x differ there named = refl
changed_at key change name (y ∷ xs) zero x differ there named =
    let here : y ≡ x = cc in
    let mine : key y ≡ name = ap key here ∙ named in
    let alone : list_any (same_name name) (map key xs) ≡ false =
    ap (λ own. list_any (same_name own) (map key xs)) (sym mine) ∙ not_true (list_any (same_name (key y)) (map key xs)) (and_parts (not (list_any (same_name (key y)) (map key xs))) (all_differ same_name (map key xs)) differ).0 in
    let same : same_name name (key y) ≡ true = ap (same_name name) mine ∙ same_name-itself name in
    ap (λ first. change first ∷ xs) (sym here)
    ∙ ap (λ ys. change y ∷ ys) (sym (none_changed key change name xs alone))
    ∙ ap (λ b. (if b then change y else y) ∷ map (λ z. if same_name name (key z) then change z else z) xs) (sym same)
changed_at key change name (y ∷ xs) (suc n) x differ there named =
    let among : list_any (same_name name) (map key xs) ≡ true =
    list_any-slice_get name (map key xs) n (slice_get-map key xs n ∙ ap (option_map key) there ∙ ap Some named) in
    let alone : list_any (same_name (key y)) (map key xs) ≡ false = not_true (list_any (same_name (key y)) (map key xs)) (and_parts (not (list_any (same_name (key y)) (map key xs))) (all_differ same_name (map key xs)) differ).0 in
    let other : same_name name (key y) ≡ false = other_name name (key y) (map key xs) among alone in
    ap (λ ys. y ∷ ys) (changed_at key change name xs n x (and_parts (not (list_any (same_name (key y)) (map key xs))) (all_differ same_name (map key xs)) differ).1 there named)
    ∙ ap (λ b. (if b then change y else y) ∷ map (λ z. if same_name name (key z) then change z else z) xs) (sym other)
