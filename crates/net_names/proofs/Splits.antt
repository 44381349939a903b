-- Two ways to split one text.
use Rattle.std.proofs.Common.{◌≡◌, ℕ, ◌+◌, ◌-◌, ◌<◌, ◌≤◌, ◌^◌, Bool, true, false, cond, List, [], ◌∷◌, ◌++◌, Some, refl, sym, ap, ◌∙◌, arith}
use Rattle.std.specs.Prelude.{nat_le}
use Rattle.std.proofs.lemmas.Bool.{leb-true}
use Rattle.design_defs.specs.Ranges.{index_at, width}

-- A text is split at two bytes: both at one place, or the one somewhere behind the other.
pub data IsSplit (p q : ℕ) (a b c d : List ℕ) : Type 0 where
  same : a ≡ b → p ≡ q → c ≡ d → IsSplit p q a b c d
  left_longer : (rest : List ℕ) → a ≡ b ++ q ∷ rest → IsSplit p q a b c d
  right_longer : (rest : List ℕ) → b ≡ a ++ p ∷ rest → IsSplit p q a b c d

pub split : (p q : ℕ) (a b c d : List ℕ) → a ++ p ∷ c ≡ b ++ q ∷ d → IsSplit p q a b c d
split p q [] [] c d e =
    let bytes : p ≡ q = cc in
    let rests : c ≡ d = cc in
    IsSplit.same refl bytes rests
split p q [] (y ∷ b) c d e =
    let head : y ≡ p = cc in
    IsSplit.right_longer b (ap (λ z. z ∷ b) head)
split p q (x ∷ a) [] c d e =
    let head : x ≡ q = cc in
    IsSplit.left_longer a (ap (λ z. z ∷ a) head)
split p q (x ∷ a) (y ∷ b) c d e =
    let tails : a ++ p ∷ c ≡ b ++ q ∷ d = cc in
    more (split p q a b c d tails)
  where
    heads : x ≡ y
    heads = cc

    more : IsSplit p q a b c d → IsSplit p q (x ∷ a) (y ∷ b) c d
    more (IsSplit.same fronts bytes rests) = IsSplit.same (ap (λ z. z ∷ a) heads ∙ ap (λ z. y ∷ z) fronts) bytes rests
    more (IsSplit.left_longer rest longer) = IsSplit.left_longer rest (ap (λ z. z ∷ a) heads ∙ ap (λ z. y ∷ z) longer)
    more (IsSplit.right_longer rest longer) = IsSplit.right_longer rest (ap (λ z. z ∷ b) (sym heads) ∙ ap (λ z. x ∷ z) longer)

-- INDICES of a vector whose ends are numbers of 32 bits
pub index_few : (r : ℕ × ℕ) (place : ℕ) → r.0 < 2 ^ 32 → r.1 < 2 ^ 32 → place < width (Some r) → index_at r place < 2 ^ 64
index_few r place left right within = by (nat_le r.1 r.0) refl
  where
    by : (b : Bool) → nat_le r.1 r.0 ≡ b → cond b (r.0 - place) (r.0 + place) < 2 ^ 64
    by true falling = omega (arith, left)
    by false rising = omega (arith, left, right, within)

pub index_once : (r : ℕ × ℕ) (a b : ℕ) → a < width (Some r) → b < width (Some r) → index_at r a ≡ index_at r b → a ≡ b
index_once r a b in_a in_b = by (nat_le r.1 r.0) refl
  where
    by : (f : Bool) → nat_le r.1 r.0 ≡ f → cond f (r.0 - a) (r.0 + a) ≡ cond f (r.0 - b) (r.0 + b) → a ≡ b
    by true falling e = let le : r.1 ≤ r.0 = leb-true r.1 r.0 falling in omega (arith, le, in_a, in_b, e)
    by false rising e = omega (arith, e)
