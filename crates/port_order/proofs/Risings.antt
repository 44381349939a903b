-- Lists put in another order, and lists of which each comes before the next.
use Rattle.std.proofs.Common.{◌≡◌, ℕ, suc, ◌+◌, ◌<◌, true, List, [], ◌∷◌, length, get_or, refl, sym, subst, arith}
use Rattle.std.specs.Cmp.{IsTotalOrder}
use Rattle.std.specs.List.{All, AllByRecursion, IsAllAdjacentAnswer}
use Rattle.std.specs.List.Sorted.{IsPermutation}
use Rattle.std.specs.Ordering.{is_lt}
use Rattle.std.specs.declared.cmp.Ordering.{Ordering}
use Rattle.std.specs.declared.cmp.Ordering.TheVariants.{Less, Equal, Greater}
use Rattle.std.proofs.lemmas.List.Elements.{recursion_from_All}
use Rattle.std.proofs.lemmas.List.Sorted.{All-permutation, IsPermutation-sym}
use Rattle.std.proofs.lemmas.Option.{slice_get-get_or}
use Rattle.list_defs.specs.Members.{IsIn}
use Rattle.list_defs.specs.Orders.{IsRising}
use Rattle.list_defs.proofs.Members.{IsIn-slice_get}
use Rattle.list_defs.proofs.Rising.{each_in}

-- a list put in another order has the same
pub all_in : {X : Type 0} (xs : List X) → All (λ x. IsIn x xs) xs
all_in xs k d within = IsIn-slice_get xs k (get_or xs k d) (slice_get-get_or xs k d within)

pub still_in : {X : Type 0} (xs ys : List X) → IsPermutation xs ys → (x : X) → IsIn x xs → IsIn x ys
still_in xs ys moved x there =
    each_in (λ y. IsIn y ys) xs x (recursion_from_All (λ y. IsIn y ys) xs (All-permutation (λ y. IsIn y ys) ys xs (IsPermutation-sym xs ys moved) (all_in ys))) there

-- what is before the first of a list is before what that is before
before_all : {X : Type 0} (cmp : X → X → Ordering) → IsTotalOrder cmp → (x y : X) (ys : List X) → cmp x y ≡ Less → AllByRecursion (λ z. cmp y z ≡ Less) ys
    → AllByRecursion (λ z. cmp x z ≡ Less) ys
before_all cmp total x y [] less all = tt
before_all cmp total x y (z ∷ zs) less all = (total.trans x y z less all.0, before_all cmp total x y zs less all.1)

pub is_less : (o : Ordering) → is_lt o ≡ true → o ≡ Less
is_less Less lt = refl
is_less Equal lt = cc
is_less Greater lt = cc

-- a list of which each comes before the next is rising
rising_from_next : {X : Type 0} (cmp : X → X → Ordering) → IsTotalOrder cmp → (xs : List X)
    → ((k : ℕ) (d : X) → suc k < length xs → cmp (get_or xs k d) (get_or xs (suc k) d) ≡ Less) → IsRising cmp xs
rising_from_next cmp total [] next = tt
rising_from_next cmp total (x ∷ []) next = (tt, tt)
rising_from_next cmp total (x ∷ y ∷ ys) next =
    let rest = rising_from_next cmp total (y ∷ ys) (λ k d within. next (suc k) d (omega (arith, within))) in
    let first = next 0 x (omega arith) in
    ((first, before_all cmp total x y ys first rest.0), rest)

-- as std's test of neighbours says it
pub rising_from_answer : {X : Type 0} (cmp : X → X → Ordering) → IsTotalOrder cmp → (xs : List X)
    → IsAllAdjacentAnswer (λ one other rises. rises ≡ is_lt (cmp one other)) xs true → IsRising cmp xs
rising_from_answer cmp total xs rises =
    rising_from_next cmp total xs (λ k d within.
    subst (λ (n : ℕ). cmp (get_or xs k d) (get_or xs n d) ≡ Less) {x = k + 1} {y = suc k} (omega arith)
    (is_less (cmp (get_or xs k d) (get_or xs (k + 1) d)) (sym (rises k d (omega (arith, within))))))
