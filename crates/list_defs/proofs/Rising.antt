-- Lists in rising order: what keeps the order, and what stands first in them.
use Rattle.std.proofs.Common.{◌≡◌, ◌≢◌, ◌<◌, ℕ, zero, suc, Bool, true, false, cond, List, [], ◌∷◌, ◌++◌, Some, filter, ◌⊎◌, inl, inr, subst, sym, ap, ◌∙◌, refl, arith}
use Rattle.std.specs.List.{AllByRecursion, find, slice_get}
use Rattle.std.specs.Cmp.{IsTotalOrder}
use Rattle.std.specs.Ordering.{ordering_reverse}
use Rattle.std.specs.declared.cmp.Ordering.{Ordering}
use Rattle.std.specs.declared.cmp.Ordering.TheVariants.{Less, Greater}
use Rattle.list_defs.specs.Members.{IsIn}
use Rattle.list_defs.specs.Orders.{IsLeast, IsRising}
use Rattle.list_defs.proofs.Members.{IsIn-slice_get}

-- what holds of each of a list holds of each that a filter keeps
pub each_kept : {X : Type 0} (P : X → Type 0) (p : X → Bool) (xs : List X) → AllByRecursion P xs → AllByRecursion P (filter p xs)
each_kept P p [] h = tt
each_kept P p (x ∷ xs) h =
    elim (p x) as (λ b. AllByRecursion P (cond b (x ∷ filter p xs) (filter p xs))) [ true ↦ (h.0, each_kept P p xs h.1) | false ↦ each_kept P p xs h.1 ]

pub each_joined : {X : Type 0} (P : X → Type 0) (xs ys : List X) → AllByRecursion P xs → AllByRecursion P ys → AllByRecursion P (xs ++ ys)
each_joined P [] ys h k = k
each_joined P (x ∷ xs) ys h k = (h.0, each_joined P xs ys h.1 k)

-- what holds of each of two joined lists holds of each of either
pub each_front : {X : Type 0} (P : X → Type 0) (xs ys : List X) → AllByRecursion P (xs ++ ys) → AllByRecursion P xs
each_front P [] ys all = tt
each_front P (x ∷ xs) ys all = (all.0, each_front P xs ys all.1)

pub each_behind : {X : Type 0} (P : X → Type 0) (xs ys : List X) → AllByRecursion P (xs ++ ys) → AllByRecursion P ys
each_behind P [] ys all = all
each_behind P (x ∷ xs) ys all = each_behind P xs ys all.1

-- what holds of each of a list holds of each one of it
pub each_in : {X : Type 0} (P : X → Type 0) (xs : List X) (x : X) → AllByRecursion P xs → IsIn x xs → P x
each_in P [] x h i = absurd i
each_in P (y ∷ ys) x h i = elim i [ inl e ↦ subst P (sym e) h.0 | inr j ↦ each_in P ys x h.1 j ]

-- of two places of a rising list the first has what comes before
pub rising_at : {X : Type 0} (cmp : X → X → Ordering) (xs : List X) → IsRising cmp xs → (i j : ℕ) (x y : X) → i < j → slice_get xs i ≡ Some x → slice_get xs j ≡ Some y
    → cmp x y ≡ Less
rising_at cmp [] rising i j x y before e f = cc
rising_at cmp (z ∷ zs) rising zero zero x y before e f = absurd (omega arith)
rising_at cmp (z ∷ zs) rising zero (suc j) x y before e f =
    let same : z ≡ x = cc in
    subst (λ w. cmp w y ≡ Less) same (each_in (λ w. cmp z w ≡ Less) zs y rising.0 (IsIn-slice_get zs j y f))
rising_at cmp (z ∷ zs) rising (suc i) zero x y before e f = absurd (omega arith)
rising_at cmp (z ∷ zs) rising (suc i) (suc j) x y before e f = rising_at cmp zs rising.1 i j x y (omega arith) e f

-- a filter keeps the order
pub IsRising-filter : {X : Type 0} (cmp : X → X → Ordering) (p : X → Bool) (xs : List X) → IsRising cmp xs → IsRising cmp (filter p xs)
IsRising-filter cmp p [] h = tt
IsRising-filter cmp p (x ∷ xs) h =
    elim (p x) as (λ b. IsRising cmp (cond b (x ∷ filter p xs) (filter p xs)))
    [ true ↦ (each_kept (λ y. cmp x y ≡ Less) p xs h.0, IsRising-filter cmp p xs h.1) | false ↦ IsRising-filter cmp p xs h.1 ]

-- two lists in order, all of the first before all of the second, make one list in order
pub IsRising-append : {X : Type 0} (cmp : X → X → Ordering) (xs ys : List X) → IsRising cmp xs → IsRising cmp ys
    → AllByRecursion (λ x. AllByRecursion (λ y. cmp x y ≡ Less) ys) xs → IsRising cmp (xs ++ ys)
IsRising-append cmp [] ys h k below = k
IsRising-append cmp (x ∷ xs) ys h k below = (each_joined (λ y. cmp x y ≡ Less) xs ys h.0 below.0, IsRising-append cmp xs ys h.1 k below.1)

-- of two things not both come before the other
pub not_both_before : {X : Type 0} (cmp : X → X → Ordering) → IsTotalOrder cmp → (x y : X) → cmp x y ≡ Less → cmp y x ≢ Less
not_both_before cmp total x y less more =
    let back : cmp x y ≡ ordering_reverse (cmp y x) = total.antisymm x y in
    let greater : ordering_reverse (cmp y x) ≡ Greater = ap ordering_reverse more in
    cc

-- nothing comes before itself
pub not_before_itself : {X : Type 0} (cmp : X → X → Ordering) → IsTotalOrder cmp → (x : X) → cmp x x ≢ Less
not_before_itself cmp total x less = not_both_before cmp total x x less less

-- the first that passes a test is one of the list and passes it
pub found_in : {X : Type 0} (p : X → Bool) (xs : List X) (first : X) → find p xs ≡ Some first → IsIn first xs × (p first ≡ true)
found_in p [] first e = cc
found_in {X} p (x ∷ xs) first e = here (p x) refl e (found_in p xs first)
  where
    here : (b : Bool) → p x ≡ b → cond b (Some x) (find p xs) ≡ Some first → (find p xs ≡ Some first → IsIn first xs × (p first ≡ true)) → IsIn first (x ∷ xs) × (p first ≡ true)
    here true passes found rest = let same : first ≡ x = cc in (inl same, cc)
    here false fails found rest = let later = rest found in (inr later.0, later.1)

-- in a list in order nothing that passes a test comes before the first that does
none_before : {X : Type 0} (cmp : X → X → Ordering) → IsTotalOrder cmp → (p : X → Bool) (xs : List X) (first y : X)
    → IsRising cmp xs → find p xs ≡ Some first → IsIn y xs → p y ≡ true → cmp y first ≢ Less
none_before cmp total p [] first y rising e there passes = absurd there
none_before {X} cmp total p (x ∷ xs) first y rising e there passes =
    here (p x) refl e there (λ found later. none_before cmp total p xs first y rising.1 found later passes)
  where
    here : (b : Bool) → p x ≡ b → cond b (Some x) (find p xs) ≡ Some first → (y ≡ x) ⊎ IsIn y xs
        → (find p xs ≡ Some first → IsIn y xs → cmp y first ≢ Less) → cmp y first ≢ Less
    here true passed found (inl same) rest = let e : cmp y first ≡ cmp x x = cc in λ less. not_before_itself cmp total x (sym e ∙ less)
    here true passed found (inr later) rest =
        let e : cmp y first ≡ cmp y x = cc in
        λ less. not_both_before cmp total x y (each_in (λ z. cmp x z ≡ Less) xs y rising.0 later) (sym e ∙ less)
    here false failed found (inl same) rest = cc
    here false failed found (inr later) rest = rest found later

-- In a list in order the first that passes a test is the least of those that do.
pub first_least : {X : Type 0} (cmp : X → X → Ordering) → IsTotalOrder cmp → (p : X → Bool) (xs : List X) (first : X)
    → IsRising cmp xs → find p xs ≡ Some first → IsLeast cmp (λ x. IsIn x xs × (p x ≡ true)) first
first_least cmp total p xs first rising e =
    record { holds = found_in p xs first e; least = λ y there. none_before cmp total p xs first y rising e there.0 there.1 }
