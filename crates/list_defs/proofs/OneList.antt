-- There is one rising list of all that has a property, and one least of all; a rising list has a thing at one place.
use Rattle.std.proofs.Common.{◌≡◌, ◌≢◌, ℕ, zero, suc, List, [], ◌∷◌, Some, inl, inr, refl, sym, ap, ◌∙◌, subst}
use Rattle.std.specs.List.{AllByRecursion, slice_get}
use Rattle.std.specs.Cmp.{IsTotalOrder}
use Rattle.std.specs.FinMap.{IsAntisymmetric}
use Rattle.std.specs.Ordering.{ordering_reverse, ordering_then}
use Rattle.std.specs.declared.cmp.Ordering.{Ordering}
use Rattle.std.specs.declared.cmp.Ordering.TheVariants.{Less, Equal, Greater}
use Rattle.list_defs.specs.Members.{IsIn}
use Rattle.list_defs.specs.Orders.{IsLeast, IsRising, AreAllRising}
use Rattle.list_defs.proofs.Members.{IsIn-slice_get}
use Rattle.list_defs.proofs.Rising.{each_in, not_before_itself, not_both_before}

-- the first of each of two rising lists that have the same is the same
same_first : {X : Type 0} (cmp : X → X → Ordering) → IsTotalOrder cmp → (x y : X) (xs ys : List X)
    → AllByRecursion (λ z. cmp x z ≡ Less) xs → AllByRecursion (λ z. cmp y z ≡ Less) ys → IsIn x (y ∷ ys) → IsIn y (x ∷ xs) → x ≡ y
same_first cmp total x y xs ys below below' (inl same) there = same
same_first cmp total x y xs ys below below' (inr later) (inl same) = sym same
same_first cmp total x y xs ys below below' (inr later) (inr later') =
    absurd (not_both_before cmp total x y (each_in (λ z. cmp x z ≡ Less) xs y below later') (each_in (λ z. cmp y z ≡ Less) ys x below' later))

-- what stands behind the first of a list and is in the other list stands behind its first
behind_first : {X : Type 0} (cmp : X → X → Ordering) → IsTotalOrder cmp → (x y z : X) (ys : List X) → x ≡ y → cmp x z ≡ Less → IsIn z (y ∷ ys) → IsIn z ys
behind_first cmp total x y z ys same below (inl here) = let itself : cmp x x ≡ Less = cc in absurd (not_both_before cmp total x x itself itself)
behind_first cmp total x y z ys same below (inr later) = later

-- two rising lists that have the same are the same
pub one_rising : {X : Type 0} (cmp : X → X → Ordering) → IsTotalOrder cmp → (xs ys : List X) → IsRising cmp xs → IsRising cmp ys
    → ((x : X) → IsIn x xs → IsIn x ys) → ((x : X) → IsIn x ys → IsIn x xs) → xs ≡ ys
one_rising cmp total [] [] h k to from = refl
one_rising cmp total [] (y ∷ ys) h k to from = absurd (from y (inl refl))
one_rising cmp total (x ∷ xs) [] h k to from = absurd (to x (inl refl))
one_rising cmp total (x ∷ xs) (y ∷ ys) h k to from =
    let first : x ≡ y = same_first cmp total x y xs ys h.0 k.0 (to x (inl refl)) (from y (inl refl)) in
    let rest : xs ≡ ys = one_rising cmp total xs ys h.1 k.1
    (λ z i. behind_first cmp total x y z ys first (each_in (λ w. cmp x w ≡ Less) xs z h.0 i) (to z (inr i)))
    (λ z i. behind_first cmp total y x z xs (sym first) (each_in (λ w. cmp y w ≡ Less) ys z k.0 i) (from z (inr i))) in
    cc

-- there is at most one rising list of all that has a property
pub one_list : {X : Type 0} (cmp : X → X → Ordering) → IsTotalOrder cmp → (P : X → Type 0) (xs ys : List X) → AreAllRising cmp P xs
    → AreAllRising cmp P ys → xs ≡ ys
one_list cmp total P xs ys h k =
    one_rising cmp total xs ys h.rising k.rising (λ x i. k.all x (h.each x i)) (λ x i. h.all x (k.each x i))

-- two things of which neither comes before the other are the same, in an order that tells things apart
pub same_of_neither : {X : Type 0} (cmp : X → X → Ordering) → IsTotalOrder cmp → IsAntisymmetric cmp → (x y : X) → cmp x y ≢ Less → cmp y x ≢ Less → x ≡ y
same_of_neither cmp total apart x y p q = by (cmp x y) refl
  where
    by : (o : Ordering) → cmp x y ≡ o → x ≡ y
    by Less is = absurd (p is)
    by Equal is = apart x y is
    by Greater is = absurd (q (total.antisymm y x ∙ ap ordering_reverse is))

-- at most one thing is the least with a property
pub one_least : {X : Type 0} (cmp : X → X → Ordering) → IsTotalOrder cmp → IsAntisymmetric cmp → (P : X → Type 0) (x y : X) → IsLeast cmp P x
    → IsLeast cmp P y → x ≡ y
one_least cmp total apart P x y h k = same_of_neither cmp total apart x y (k.least x h.holds) (h.least y k.holds)

-- a list in rising order has a thing at one place
pub one_place : {X : Type 0} (cmp : X → X → Ordering) → IsTotalOrder cmp → (xs : List X) → IsRising cmp xs
    → (n m : ℕ) (x : X) → slice_get xs n ≡ Some x → slice_get xs m ≡ Some x → n ≡ m
one_place cmp total [] rising n m x e f = cc
one_place cmp total (y ∷ ys) rising zero zero x e f = refl
one_place cmp total (y ∷ ys) rising zero (suc m) x e f =
    let same : y ≡ x = cc in
    absurd (not_before_itself cmp total x (subst (λ z. cmp z x ≡ Less) same (each_in (λ z. cmp y z ≡ Less) ys x rising.0 (IsIn-slice_get ys m x f))))
one_place cmp total (y ∷ ys) rising (suc n) zero x e f =
    let same : y ≡ x = cc in
    absurd (not_before_itself cmp total x (subst (λ z. cmp z x ≡ Less) same (each_in (λ z. cmp y z ≡ Less) ys x rising.0 (IsIn-slice_get ys n x e))))
one_place cmp total (y ∷ ys) rising (suc n) (suc m) x e f = ap suc (one_place cmp total ys rising.1 n m x e f)

-- two parts of an order that both say Equal
pub both_equal : (a b : Ordering) → ordering_then a b ≡ Equal → (a ≡ Equal) × (b ≡ Equal)
both_equal Less b e = cc
both_equal Equal b e = (refl, e)
both_equal Greater b e = cc
