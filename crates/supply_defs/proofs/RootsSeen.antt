-- A root of the whole network has no feeder, and the unit in which it stands sees it.
use Rattle.std.proofs.Common.{◌≡◌, ℕ, List, [], Some, slice_get, refl, sym, ◌∙◌, ◌⊎◌, inl, inr, subst}
use Rattle.pw_defs.specs.declared.intent.Unit.{Unit as PowerUnit}
use Rattle.pw_defs.specs.declared.supplies.Supply.{Supply}
use Rattle.list_defs.specs.Rings.{IsReached}
use Rattle.supply_defs.specs.Limits.{IsFlatRoot}
use Rattle.supply_defs.specs.Network.{IsRoot, IsUnfed, FeedersLead, HasNoFeederRing}
use Rattle.supply_defs.specs.UnitLists.{IsSeen, IsSeenRoot}

-- feeders lead from a supply to its root
lead_to_root : (supplies : List Supply) (a r : ℕ) → IsRoot supplies [] a r → (a ≡ r) ⊎ FeedersLead supplies a r
lead_to_root supplies _ _ (IsRoot.stopped a here) = absurd here
lead_to_root supplies _ _ (IsRoot.unfed a none) = inl refl
lead_to_root supplies _ _ (IsRoot.fed a b r off step rest) = elim (lead_to_root supplies b r rest) [
  | inl same ↦ inr (let L : ℕ → Type 0 = λ n. FeedersLead supplies a n in subst L same (IsReached.one a b step))
  | inr lead ↦ inr (IsReached.more a b r step lead)
]

same_unfed : (supplies : List Supply) → HasNoFeederRing supplies → (a r : ℕ) → IsRoot supplies [] a r → a ≡ r → IsUnfed supplies a
same_unfed supplies ringless _ _ (IsRoot.stopped a here) same = absurd here
same_unfed supplies ringless _ _ (IsRoot.unfed a none) same = none
same_unfed supplies ringless _ _ (IsRoot.fed a b r off step rest) same =
    let L : ℕ → Type 0 = λ n. FeedersLead supplies a n in
    elim (lead_to_root supplies b r rest) [
      | inl there ↦ absurd (ringless a (subst L (there ∙ sym same) (IsReached.one a b step)))
      | inr lead ↦ absurd (ringless a (subst L (sym same) (IsReached.more a b r step lead)))
    ]

-- a root of the whole network has no feeder
pub flat_root_unfed : (supplies : List Supply) → HasNoFeederRing supplies → (root : ℕ) → IsFlatRoot supplies root → IsUnfed supplies root
flat_root_unfed supplies ringless root is = same_unfed supplies ringless root root is refl

-- the unit in which it stands sees it
pub flat_root_seen : (supplies : List Supply) (units : List PowerUnit) → HasNoFeederRing supplies → (root : ℕ) (s : Supply) → IsFlatRoot supplies root
    → slice_get supplies root ≡ Some s → IsSeenRoot supplies units s.unit root
flat_root_seen supplies units ringless root s is there =
    record { supply = root; seen = IsSeen.own s there refl; is_root = IsRoot.unfed root (flat_root_unfed supplies ringless root is) }
