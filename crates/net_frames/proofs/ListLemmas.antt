-- Lists that answer one another place by place, and parts of lists.
use Rattle.std.proofs.Common.{◌≡◌, ℕ, zero, suc, ◌+◌, ◌-◌, ◌<◌, ◌≤◌, List, [], ◌∷◌, ◌++◌, Some, length, take, drop, refl, ap, ◌∙◌, arith}
use Rattle.std.specs.List.{AllZip, slice_get, slice_range, sum_by}
use Rattle.std.proofs.lemmas.List.{length-drop, length-take-le}
use Rattle.std.proofs.lemmas.List.Sums.{sum_by-cons}

pub zip_joined : {A B : Type 0} (R : A → B → Type 0) (xs more : List A) (ys others : List B) → AllZip R xs ys → AllZip R more others → AllZip R (xs ++ more) (ys ++ others)
zip_joined R [] more [] others h k = k
zip_joined R [] more (y ∷ ys) others h k = absurd h
zip_joined R (x ∷ xs) more [] others h k = absurd h
zip_joined R (x ∷ xs) more (y ∷ ys) others h k = (h.0, zip_joined R xs more ys others h.1 k)

pub zip_kept : {A B : Type 0} (R S : A → B → Type 0) (xs : List A) (ys : List B) → ((x : A) (y : B) → R x y → S x y) → AllZip R xs ys → AllZip S xs ys
zip_kept R S [] [] keeps h = h
zip_kept R S [] (y ∷ ys) keeps h = absurd h
zip_kept R S (x ∷ xs) [] keeps h = absurd h
zip_kept R S (x ∷ xs) (y ∷ ys) keeps h = (keeps x y h.0, zip_kept R S xs ys keeps h.1)

-- lists of one length answer one another where what stands at each place does
pub zip_by_place : {A B : Type 0} (R : A → B → Type 0) (xs : List A) (ys : List B) → length xs ≡ length ys
    → ((i : ℕ) (x : A) (y : B) → slice_get xs i ≡ Some x → slice_get ys i ≡ Some y → R x y) → AllZip R xs ys
zip_by_place R [] [] same each = tt
zip_by_place R [] (y ∷ ys) same each = cc
zip_by_place R (x ∷ xs) [] same each = cc
zip_by_place R (x ∷ xs) (y ∷ ys) same each =
    (each 0 x y refl refl, zip_by_place R xs ys (omega arith) (λ i a b e f. each (suc i) a b e f))

-- sums over the first of lists that have the same numbers place by place
pub sums_by_place : {A B : Type 0} (f : A → ℕ) (g : B → ℕ) (xs : List A) (ys : List B) → length xs ≡ length ys
    → ((i : ℕ) (x : A) (y : B) → slice_get xs i ≡ Some x → slice_get ys i ≡ Some y → f x ≡ g y) → (k : ℕ) → sum_by f (take k xs) ≡ sum_by g (take k ys)
sums_by_place f g xs ys same each zero = refl
sums_by_place f g [] [] same each (suc k) = refl
sums_by_place f g [] (y ∷ ys) same each (suc k) = cc
sums_by_place f g (x ∷ xs) [] same each (suc k) = cc
sums_by_place f g (x ∷ xs) (y ∷ ys) same each (suc k) =
    let here : f x ≡ g y = each 0 x y refl refl in
    let rest = sums_by_place f g xs ys (omega arith) (λ i a b e h. each (suc i) a b e h) k in
    omega (arith, sum_by-cons f x (take k xs), sum_by-cons g y (take k ys), here, rest)

get_take : {X : Type 0} (xs : List X) (n i : ℕ) → i < n → slice_get (take n xs) i ≡ slice_get xs i
get_take [] zero i less = refl
get_take [] (suc n) i less = refl
get_take (x ∷ xs) zero i less = absurd (omega arith)
get_take (x ∷ xs) (suc n) zero less = refl
get_take (x ∷ xs) (suc n) (suc i) less = get_take xs n i (omega arith)

get_drop : {X : Type 0} (xs : List X) (n i : ℕ) → slice_get (drop n xs) i ≡ slice_get xs (n + i)
get_drop xs zero i = let same : i ≡ 0 + i = omega arith in ap (slice_get xs) same
get_drop [] (suc n) i = refl
get_drop (x ∷ xs) (suc n) i =
    let same : suc (n + i) ≡ suc n + i = omega arith in
    get_drop xs n i ∙ ap (slice_get (x ∷ xs)) same

-- what stands at a place of a part of a list
pub get_part : {X : Type 0} (xs : List X) (from count i : ℕ) → i < count → slice_get (slice_range xs from (from + count)) i ≡ slice_get xs (from + i)
get_part xs from count i less = get_take (drop from xs) (from + count - from) i (omega arith) ∙ get_drop xs from i

pub part_length : {X : Type 0} (xs : List X) (from count : ℕ) → from + count ≤ length xs → length (slice_range xs from (from + count)) ≡ count
part_length xs from count fits =
    let back = length-drop from xs in
    length-take-le (from + count - from) (drop from xs) (omega (arith, back)) ∙ omega arith
