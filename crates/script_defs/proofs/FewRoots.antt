-- There are no more roots than supplies.
use Rattle.std.proofs.Common.{◌≡◌, ℕ, suc, ◌+◌, ◌<◌, ◌≤◌, ◌⊎◌, List, [], ◌∷◌, length, Option, Some, None, option_map, refl, inl, inr, arith}
use Rattle.std.specs.Cmp.{nat_cmp_is}
use Rattle.std.specs.List.{AllByRecursion, slice_get}
use Rattle.std.specs.Ordering.{nat_cmp}
use Rattle.std.specs.declared.cmp.Ordering.TheVariants.{Less, Equal, Greater}
use Rattle.std.proofs.lemmas.Option.{slice_get_within}
use Rattle.pw_defs.specs.declared.supplies.Supply.{Supply}
use Rattle.list_defs.specs.Members.{IsIn}
use Rattle.list_defs.specs.Orders.{IsRising}
use Rattle.supply_defs.specs.Network.{IsRoot, feeder_at}
use Rattle.script_defs.specs.Closing.{HasManyRoots}

less_below : (x y : ℕ) → nat_cmp x y ≡ Less → x < y
less_below x y less = by (either x y)
  where
    either : (a b : ℕ) → (a < b) ⊎ ((a ≡ b) ⊎ (b < a))
    either a b = grind arith

    by : (x < y) ⊎ ((x ≡ y) ⊎ (y < x)) → x < y
    by (inl below) = below
    by (inr (inl same)) = let is : Equal ≡ nat_cmp x y = nat_cmp_is x y Equal same in cc
    by (inr (inr past)) = let is : Greater ≡ nat_cmp x y = nat_cmp_is x y Greater past in cc

-- numbers that rise from `low` on and stay below `most` are no more than there are from one to the other
rising_below : (xs : List ℕ) (low most : ℕ) → low ≤ most → IsRising nat_cmp xs → ((x : ℕ) → IsIn x xs → low ≤ x) → ((x : ℕ) → IsIn x xs → x < most)
    → low + length xs ≤ most
rising_below [] low most within rising from to = omega arith
rising_below (x ∷ xs) low most within rising from to =
    let here : low ≤ x = from x (inl refl) in
    let below : x < most = to x (inl refl) in
    let rest : suc x + length xs ≤ most = rising_below xs (suc x) most below rising.1 (λ y i. less_below x y (later xs rising.0 y i)) (λ y i. to y (inr i)) in
    omega arith
  where
    later : (ys : List ℕ) → AllByRecursion (λ y. nat_cmp x y ≡ Less) ys → (y : ℕ) → IsIn y ys → nat_cmp x y ≡ Less
    later [] all y i = absurd i
    later (z ∷ zs) all y (inl e) = cc (all.0, e)
    later (z ∷ zs) all y (inr i) = later zs all.1 y i

within : (supplies : List Supply) (n : ℕ) (f : Option ℕ) → feeder_at supplies n ≡ Some f → n < length supplies
within supplies n f e = by (slice_get supplies n) refl e
  where
    by : (o : Option Supply) → slice_get supplies n ≡ o → option_map (λ (s : Supply). s.feeder) o ≡ Some f → n < length supplies
    by None is h = cc
    by (Some s) is h = slice_get_within supplies n s is

-- a root is one of the supplies
root_within : (supplies : List Supply) (a r : ℕ) → IsRoot supplies [] a r → a < length supplies
root_within supplies _ _ (IsRoot.stopped a i) = absurd i
root_within supplies _ _ (IsRoot.unfed a e) = within supplies a None e
root_within supplies _ _ (IsRoot.fed a b root i e rest) = within supplies a (Some b) e

-- so a network of at most 1,024 supplies has no more roots
pub few_supplies : (supplies : List Supply) → length supplies ≤ 1024 → ¬ HasManyRoots supplies
few_supplies supplies few many =
    let bound : 0 + length many.roots ≤ length supplies =
    rising_below many.roots 0 (length supplies) (omega arith) many.rising (λ x i. omega arith) (λ x i. root_within supplies x x (many.each x i)) in
    let more : 1024 < length many.roots = many.many in
    omega arith
