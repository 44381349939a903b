-- Four bits: the first two feed one another, the third is fed by the first, and the last by nothing.
use Rattle.std.proofs.Common.{ℕ, zero, suc, List, [], ◌∷◌, inl, inr, refl, arith}
use Rattle.list_defs.specs.Rings.{IsReached}
use Rattle.net_rings.specs.Fed.{IsFedBy}
use Rattle.net_rings.specs.Least.{IsLeastOfRing}
use Rattle.net_rings.specs.Peeled.{IsGone}
use Rattle.net_rings.specs.declared.minima.Ranked.{Ranked}

abbrev sources : List (List ℕ)
sources = (1 ∷ []) ∷ (0 ∷ []) ∷ (0 ∷ []) ∷ [] ∷ []

-- the second bit comes before the first
abbrev order : List Ranked
order = record { bit = 1; rank = 3 } ∷ record { bit = 0; rank = 5 } ∷ []

-- the second bit is the least of the ring
second_least : IsLeastOfRing sources order 1
second_least = record {
  rank = 3;
  ranked = inl refl;
  ring = IsReached.more 1 0 1 (inl refl, 5, inr (inl refl), omega arith) (IsReached.one 0 1 (inl refl, 3, inl refl, omega arith));
}

-- the third bit feeds none, so it is gone though a ring feeds it
third_gone : IsGone sources [] 2
third_gone = IsGone.unused 2 by
  where
    by : (fed : ℕ) → IsFedBy sources fed 2 → IsGone sources [] fed
    by zero (inl wrong) = cc
    by zero (inr none) = absurd none
    by (suc zero) (inl wrong) = cc
    by (suc zero) (inr none) = absurd none
    by (suc (suc zero)) (inl wrong) = cc
    by (suc (suc zero)) (inr none) = absurd none
    by (suc (suc (suc zero))) none = absurd none
    by (suc (suc (suc (suc n)))) none = absurd none
