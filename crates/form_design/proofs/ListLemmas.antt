-- What holds of each item of a list that is made from others.
use Rattle.std.proofs.Common.{◌≡◌, ℕ, zero, suc, ◌+◌, ◌<◌, Bool, true, false, List, [], ◌∷◌, ◌++◌, Option, Some, None, map, length, slice_get, refl, ap, subst, arith}
use Rattle.std.specs.Prelude.{IfSome, option_map, option_and_then, if◌then◌else◌}
use Rattle.std.specs.List.{AllByRecursion, filter_map, flat_map, enumerate_from, cons_option}
use Rattle.std.proofs.lemmas.Option.{none-some, same_Some}
use Rattle.list_defs.specs.Members.{place_of}
use Rattle.form_design.specs.Hierarchy.{both}

-- OPTIONS

pub if_some_map : {X Y : Type 0} (P : Y → Type 0) (f : X → Y) → ((x : X) → P (f x)) → (o : Option X) → IfSome (option_map f o) P
if_some_map P f each None = tt
if_some_map P f each (Some x) = each x

pub if_some_then : {X Y : Type 0} (P : Y → Type 0) (f : X → Option Y) → ((x : X) → IfSome (f x) P) → (o : Option X) → IfSome (option_and_then f o) P
if_some_then P f each None = tt
if_some_then P f each (Some x) = each x

pub if_some_both : {X Y : Type 0} (A : X → Type 0) (B : Y → Type 0) (P : X × Y → Type 0) → ((x : X) (y : Y) → A x → B y → P (x, y))
    → (a : Option X) (b : Option Y) → IfSome a A → IfSome b B → IfSome (both a b) P
if_some_both A B P each None b p q = tt
if_some_both A B P each (Some x) None p q = tt
if_some_both A B P each (Some x) (Some y) p q = each x y p q

-- the first place that passes a test is in the list
pub place_in : {X : Type 0} (test : X → Bool) (xs : List X) → IfSome (place_of test xs) (λ n. n < length xs)
place_in test [] = tt
place_in test (x ∷ xs) = by (length xs) (test x) (place_of test xs) (place_in test xs)
  where
    by : (n : ℕ) (b : Bool) (o : Option ℕ) → IfSome o (λ k. k < n) → IfSome (if b then Some 0 else option_map suc o) (λ k. k < suc n)
    by n true o h = omega arith
    by n false None h = tt
    by n false (Some k) h = omega arith

-- EACH ITEM

pub all_weaker : {X : Type 0} (P Q : X → Type 0) → ((x : X) → P x → Q x) → (xs : List X) → AllByRecursion P xs → AllByRecursion Q xs
all_weaker P Q each [] all = tt
all_weaker P Q each (x ∷ xs) all = (each x all.0, all_weaker P Q each xs all.1)

pub all_both : {X : Type 0} (P Q : X → Type 0) (xs : List X) → AllByRecursion P xs → AllByRecursion Q xs → AllByRecursion (λ x. P x × Q x) xs
all_both P Q [] left right = tt
all_both P Q (x ∷ xs) left right = ((left.0, right.0), all_both P Q xs left.1 right.1)

pub all_append : {X : Type 0} (P : X → Type 0) (xs ys : List X) → AllByRecursion P xs → AllByRecursion P ys → AllByRecursion P (xs ++ ys)
all_append P [] ys left right = right
all_append P (x ∷ xs) ys left right = (left.0, all_append P xs ys left.1 right)

pub all_map : {X Y : Type 0} (P : X → Type 0) (Q : Y → Type 0) (f : X → Y) → ((x : X) → P x → Q (f x)) → (xs : List X) → AllByRecursion P xs → AllByRecursion Q (map f xs)
all_map P Q f each [] all = tt
all_map P Q f each (x ∷ xs) all = (each x all.0, all_map P Q f each xs all.1)

pub all_made : {X Y : Type 0} (P : Y → Type 0) (f : X → Y) → ((x : X) → P (f x)) → (xs : List X) → AllByRecursion P (map f xs)
all_made P f each [] = tt
all_made P f each (x ∷ xs) = (each x, all_made P f each xs)

all_cons_option : {X : Type 0} (P : X → Type 0) (o : Option X) → IfSome o P → (xs : List X) → AllByRecursion P xs → AllByRecursion P (cons_option o xs)
all_cons_option P None first xs all = all
all_cons_option P (Some x) first xs all = (first, all)

pub all_filter_map : {X Y : Type 0} (P : Y → Type 0) (f : X → Option Y) → ((x : X) → IfSome (f x) P) → (xs : List X) → AllByRecursion P (filter_map f xs)
all_filter_map P f each [] = tt
all_filter_map P f each (x ∷ xs) = all_cons_option P (f x) (each x) (filter_map f xs) (all_filter_map P f each xs)

-- what is made from each item with its number
pub all_flat_map : {X Y : Type 0} (P : Y → Type 0) (f : ℕ × X → List Y) (n : ℕ) (xs : List X)
    → ((i k : ℕ) (x : X) → i ≡ n + k → slice_get xs k ≡ Some x → AllByRecursion P (f (i, x)))
    → AllByRecursion P (flat_map f (enumerate_from n xs))
all_flat_map P f n [] each = tt
all_flat_map P f n (x ∷ xs) each =
    all_append P (f (n, x)) (flat_map f (enumerate_from (n + 1) xs)) (each n 0 x (omega arith) refl)
    (all_flat_map P f (n + 1) xs (λ i k y is at. each i (suc k) y (omega arith) at))

pub all_at : {X : Type 0} (P : X → Type 0) (xs : List X) (k : ℕ) (x : X) → AllByRecursion P xs → slice_get xs k ≡ Some x → P x
all_at P [] k x all at = absurd (none-some x at)
all_at P (y ∷ ys) zero x all at = subst P (same_Some y x at) all.0
all_at P (y ∷ ys) (suc k) x all at = all_at P ys k x all.1 at

-- PLACES

pub get_left : {X : Type 0} (xs ys : List X) (k : ℕ) (x : X) → slice_get xs k ≡ Some x → slice_get (xs ++ ys) k ≡ Some x
get_left [] ys k x at = absurd (none-some x at)
get_left (y ∷ xs) ys zero x at = at
get_left (y ∷ xs) ys (suc k) x at = get_left xs ys k x at

same_pair : {X Y : Type 0} (a b : X) (x y : Y) → a ≡ b → x ≡ y → ◌≡◌ {A = X × Y} (a, x) (b, y)
same_pair a b x y p q = cc

pub get_numbered : {X : Type 0} (n : ℕ) (xs : List X) (k : ℕ) (x : X) → slice_get xs k ≡ Some x → slice_get (enumerate_from n xs) k ≡ Some (n + k, x)
get_numbered n [] k x at = absurd (none-some x at)
get_numbered n (y ∷ xs) zero x at = ap (λ p. Some p) (same_pair n (n + 0) y x (omega arith) (same_Some y x at))
get_numbered n (y ∷ xs) (suc k) x at =
    let here : slice_get (enumerate_from (n + 1) xs) k ≡ Some ((n + 1) + k, x) = get_numbered (n + 1) xs k x at in
    let same : (n + 1) + k ≡ n + suc k = omega arith in
    rw same at here

pub get_there : {X : Type 0} (xs : List X) (k : ℕ) → k < length xs → (x : X) × (slice_get xs k ≡ Some x)
get_there [] k inside = absurd (omega arith)
get_there (x ∷ xs) zero inside = (x, refl)
get_there (x ∷ xs) (suc k) inside = get_there xs k (omega arith)
