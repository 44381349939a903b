-- On a ring of steps that each lead to one thing, all that is reached is on the ring; and a ring has a least name.
use Rattle.std.proofs.Common.{◌≡◌, ℕ, zero, suc, ◌<◌, ◌≤◌, Bool, true, false, cond, List, [], ◌∷◌, Some, slice_get, refl, sym, ap, ◌∙◌, subst, arith}
use Rattle.std.specs.Cmp.{IsTotalOrder}
use Rattle.std.specs.Ordering.{is_lt}
use Rattle.std.specs.declared.cmp.Ordering.{Ordering}
use Rattle.std.specs.declared.cmp.Ordering.TheVariants.{Less, Equal, Greater}
use Rattle.std.proofs.lemmas.Option.{same_Some}
use Rattle.list_defs.specs.Rings.{IsReached}
use Rattle.list_defs.proofs.Rising.{not_before_itself}
use Rattle.design_defs.proofs.WalkEnds.{step_on}

-- where each thing steps to one, the next of a thing on a ring is on a ring
next_on_ring : {X : Type 0} (Step : X → X → Type 0) → ((x y z : X) → Step x y → Step x z → y ≡ z) → (x y u z : X) → Step x y → IsReached Step u z → u ≡ x → z ≡ x
    → IsReached Step y y
next_on_ring Step one x y _ _ step (IsReached.one u z back) from same =
    let next : z ≡ y = one x z y (subst (λ w. Step w z) from back) step in
    let back_again : y ≡ x = sym next ∙ same in
    IsReached.one y y (subst (λ w. Step w y) (sym back_again) step)
next_on_ring Step one x y _ _ step (IsReached.more u w z first rest) from same =
    let next : w ≡ y = one x w y (subst (λ v. Step v w) from first) step in
    step_on Step y x y (subst (λ v. IsReached Step v x) next (subst (IsReached Step w) same rest)) step

-- and so is all that is reached from it
pub on_ring : {X : Type 0} (Step : X → X → Type 0) → ((x y z : X) → Step x y → Step x z → y ≡ z) → (x y : X) → IsReached Step x y → IsReached Step x x
    → IsReached Step y y
on_ring Step one _ _ (IsReached.one x y step) ring = next_on_ring Step one x y x x step ring refl refl
on_ring Step one _ _ (IsReached.more x y z step rest) ring = on_ring Step one y z rest (next_on_ring Step one x y x x step ring refl refl)

-- the first step of what is reached
pub first_step : {X : Type 0} (Step : X → X → Type 0) (x y : X) → IsReached Step x y → (z : X) × Step x z
first_step Step _ _ (IsReached.one x y step) = (y, step)
first_step Step _ _ (IsReached.more x y z step rest) = (y, step)

-- COUNTS. How many of a list pass a test.
how_many : {X : Type 0} → (X → Bool) → List X → ℕ
how_many test [] = 0
how_many test (x ∷ xs) = cond (test x) (suc (how_many test xs)) (how_many test xs)

no_more : {X : Type 0} (p q : X → Bool) (xs : List X) → ((x : X) → p x ≡ true → q x ≡ true) → how_many p xs ≤ how_many q xs
unfolding how_many
no_more p q [] implies = omega arith
no_more p q (x ∷ xs) implies = by (p x) refl (q x) refl (no_more p q xs implies)
  where
    by : (a : Bool) → p x ≡ a → (b : Bool) → q x ≡ b → how_many p xs ≤ how_many q xs
        → cond a (suc (how_many p xs)) (how_many p xs) ≤ cond b (suc (how_many q xs)) (how_many q xs)
    by true e true f rest = omega (arith, rest)
    by true e false f rest = let other = sym f ∙ implies x e in cc
    by false e true f rest = omega (arith, rest)
    by false e false f rest = rest

fewer : {X : Type 0} (p q : X → Bool) (xs : List X) → ((x : X) → p x ≡ true → q x ≡ true) → (at : ℕ) (x : X) → slice_get xs at ≡ Some x
    → p x ≡ false → q x ≡ true → how_many p xs < how_many q xs
unfolding how_many
fewer p q [] implies at x e fails passes = cc
fewer p q (y ∷ ys) implies zero x e fails passes =
    let same : x ≡ y = sym (same_Some y x e) in
    let fails_here : p y ≡ false = ap p (sym same) ∙ fails in
    let passes_here : q y ≡ true = ap q (sym same) ∙ passes in
    rw (fails_here, passes_here) (omega (arith, no_more p q ys implies))
fewer p q (y ∷ ys) implies (suc at) x e fails passes = by (p y) refl (q y) refl (fewer p q ys implies at x e fails passes)
  where
    by : (a : Bool) → p y ≡ a → (b : Bool) → q y ≡ b → how_many p ys < how_many q ys
        → cond a (suc (how_many p ys)) (how_many p ys) < cond b (suc (how_many q ys)) (how_many q ys)
    by true g true f rest = omega (arith, rest)
    by true g false f rest = let other = sym f ∙ implies y g in cc
    by false g true f rest = omega (arith, rest)
    by false g false f rest = rest

less_is : (o : Ordering) → is_lt o ≡ true → o ≡ Less
less_is Less e = refl
less_is Equal e = cc
less_is Greater e = cc

-- DESCENT. Where each thing of a kind in a list leads to another of it that comes before it, there is none of the kind.
pub no_descent : {X Y : Type 0} (cmp : Y → Y → Ordering) → IsTotalOrder cmp → (name : X → Y) (xs : List X) (P : ℕ → X → Type 0)
    → ((n : ℕ) (x : X) → slice_get xs n ≡ Some x → P n x
    → ((m : ℕ) (y : X) → slice_get xs m ≡ Some y → P m y → cmp (name y) (name x) ≡ Less → ⊥) → ⊥)
    → (n : ℕ) (x : X) → slice_get xs n ≡ Some x → P n x → ⊥
no_descent {X} cmp total name xs P leads n x at there = down (suc (rank x)) n x at there (omega arith)
  where
    before : X → X → Bool
    before x y = is_lt (cmp (name y) (name x))

    rank : X → ℕ
    rank x = how_many (before x) xs

    lower : (m : ℕ) (y z : X) → slice_get xs m ≡ Some y → cmp (name y) (name z) ≡ Less → rank y < rank z
    lower m y z at less =
        fewer (before y) (before z) xs (λ w is. ap is_lt (total.trans (name w) (name y) (name z) (less_is (cmp (name w) (name y)) is) less)) m y at
        (not_itself (cmp (name y) (name y)) refl) (ap is_lt less)
      where
        not_itself : (o : Ordering) → cmp (name y) (name y) ≡ o → is_lt (cmp (name y) (name y)) ≡ false
        not_itself Less e = absurd (not_before_itself cmp total (name y) e)
        not_itself Equal e = ap is_lt e
        not_itself Greater e = ap is_lt e

    down : (fuel n : ℕ) (x : X) → slice_get xs n ≡ Some x → P n x → rank x < fuel → ⊥
    down zero n x at there enough = omega (arith, enough)
    down (suc fuel) n x at there enough =
        leads n x at there (λ m y at_y there_y less. down fuel m y at_y there_y (omega (arith, enough, lower m y x at_y less)))
