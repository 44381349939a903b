-- Roots of the worked network with a soft macro, and the places of its supplies in an order of roots.
use Rattle.std.proofs.Common.{◌≡◌, ℕ, zero, suc, List, [], ◌∷◌, Some, slice_get, slice_index, inl, inr, refl, sym, subst, arith}
use Rattle.supply_defs.specs.Limits.{AreFlatRoots, IsFlatRoot, HasFewRoots}
use Rattle.supply_defs.specs.Network.{IsRoot}
use Rattle.supply_defs.specs.Places.{ArePlaces}
use Rattle.supply_defs.proofs.WorkedNetworks.{with_macro}

-- each supply of the network has the root V
roots_are_net : (supply root : ℕ) → IsRoot with_macro [] supply root → root ≡ 0
roots_are_net _ _ (IsRoot.stopped a here) = absurd here
roots_are_net _ _ (IsRoot.unfed zero none) = refl
roots_are_net _ _ (IsRoot.unfed (suc zero) none) = cc
roots_are_net _ _ (IsRoot.unfed (suc (suc zero)) none) = cc
roots_are_net _ _ (IsRoot.unfed (suc (suc (suc n))) none) = cc
roots_are_net _ _ (IsRoot.fed a b root off step rest) = roots_are_net b root rest

-- it is the one root of the whole network
pub one_flat_root : AreFlatRoots with_macro (0 ∷ [])
one_flat_root = record {
  rising = (tt, tt);
  each = λ root there. elim there [
    | inl same ↦ (let R : ℕ → Type 0 = λ n. IsFlatRoot with_macro n in subst R (sym same) (IsRoot.unfed 0 refl))
    | inr none ↦ absurd none
  ];
  all = λ root is. inl (roots_are_net root root is);
}

pub few_roots : HasFewRoots with_macro
few_roots = (0 ∷ [], one_flat_root, omega arith)

-- in an order with that root alone each supply has the first place
pub all_at_first_place : ArePlaces with_macro (0 ∷ []) (0 ∷ 0 ∷ 0 ∷ [])
all_at_first_place = record { count = refl; each = λ supply root is. by supply root (roots_are_net supply root is) is }
  where
    at_zero : (root : ℕ) → root ≡ 0 → slice_get (0 ∷ []) 0 ≡ Some root
    at_zero root same = let S : ℕ → Type 0 = λ n. slice_get (0 ∷ []) 0 ≡ Some n in subst S (sym same) refl

    by : (supply root : ℕ) → root ≡ 0 → IsRoot with_macro [] supply root → slice_get (0 ∷ []) (slice_index (0 ∷ 0 ∷ 0 ∷ []) supply) ≡ Some root
    by zero root same is = at_zero root same
    by (suc zero) root same is = at_zero root same
    by (suc (suc zero)) root same is = at_zero root same
    by (suc (suc (suc n))) root same is = at_zero root same

-- an order without the root gives no places
pub no_places_without_root : (places : List ℕ) → ¬ ArePlaces with_macro [] places
no_places_without_root places are = let there = are.each 0 0 (IsRoot.unfed 0 refl) in cc
