-- Roots of small networks: behind a switch, in a ring, and of a soft macro's port from inside and from outside.
use Rattle.std.proofs.Common.{◌≡◌, ◌≢◌, ℕ, zero, suc, [], ◌∷◌, Option, Some, None, option_map, slice_get, inl, inr, ◌⊎◌, refl, arith}
use Rattle.std.specs.Prelude.{codes}
use Rattle.pw_defs.specs.declared.supplies.Supply.{Supply}
use Rattle.list_defs.specs.Rings.{IsReached}
use Rattle.supply_defs.specs.Network.{FeedersLead, HasNoFeederRing, IsRoot}
use Rattle.supply_defs.specs.UnitViews.{IsRootIn, AreSameSet, IsGroundRoot}
use Rattle.supply_defs.proofs.Roots.{one_root}
use Rattle.supply_defs.proofs.WorkedNetworks.{one_unit, two_units, switched, switch_ring, quiet, net_ring, with_macro}

-- the root of the net behind the switch is the switch's output
pub net_behind_switch : IsRootIn switched one_unit 0 0 3
net_behind_switch = IsRoot.fed 0 3 3 (λ none. none) refl (IsRoot.unfed 3 refl)

pub switch_output_name : option_map (λ (s : Supply). s.name) (slice_get switched 3) ≡ Some (codes "SW/o")
switch_output_name = refl

-- and not the net at its input
pub switch_is_no_feeder : ¬ IsRootIn switched one_unit 0 0 1
switch_is_no_feeder root = omega (arith, one_root switched [] 0 3 1 net_behind_switch root)

-- two nets that feed one another make a ring
pub nets_in_ring : ¬ HasNoFeederRing net_ring
nets_in_ring ringless = ringless 0 (IsReached.more 0 1 0 refl (IsReached.one 1 0 refl))

-- and have no root
no_root : (a r : ℕ) → IsRoot net_ring [] a r → (a ≡ 0) ⊎ (a ≡ 1) → ⊥
no_root _ _ (IsRoot.stopped a here) at = absurd here
no_root _ _ (IsRoot.unfed zero none) at = cc
no_root _ _ (IsRoot.unfed (suc zero) none) at = cc
no_root _ _ (IsRoot.unfed (suc (suc a)) none) at = cc
no_root _ _ (IsRoot.fed zero b r off step rest) at = let next : b ≡ 1 = cc in no_root b r rest (inr next)
no_root _ _ (IsRoot.fed (suc zero) b r off step rest) at = let next : b ≡ 0 = cc in no_root b r rest (inl next)
no_root _ _ (IsRoot.fed (suc (suc a)) b r off step rest) at = cc

pub nets_in_ring_without_root : (r : ℕ) → ¬ IsRoot net_ring [] 0 r
nets_in_ring_without_root r root = no_root 0 r root (inl refl)

-- two switches that feed one another make no ring of feeders
switch_steps : (a b : ℕ) → FeedersLead switch_ring a b → ((a ≡ 0) × (b ≡ 3)) ⊎ ((a ≡ 2) × (b ≡ 1))
switch_steps _ _ (IsReached.one zero b step) = inl (refl, cc)
switch_steps _ _ (IsReached.one (suc zero) b step) = cc
switch_steps _ _ (IsReached.one (suc (suc zero)) b step) = inr (refl, cc)
switch_steps _ _ (IsReached.one (suc (suc (suc zero))) b step) = cc
switch_steps _ _ (IsReached.one (suc (suc (suc (suc a)))) b step) = cc
switch_steps _ _ (IsReached.more zero b c step rest) =
    let next : b ≡ 3 = cc in elim (switch_steps b c rest) [ inl h ↦ (let e = h.0 in cc) | inr h ↦ (let e = h.0 in cc) ]
switch_steps _ _ (IsReached.more (suc zero) b c step rest) = cc
switch_steps _ _ (IsReached.more (suc (suc zero)) b c step rest) =
    let next : b ≡ 1 = cc in elim (switch_steps b c rest) [ inl h ↦ (let e = h.0 in cc) | inr h ↦ (let e = h.0 in cc) ]
switch_steps _ _ (IsReached.more (suc (suc (suc zero))) b c step rest) = cc
switch_steps _ _ (IsReached.more (suc (suc (suc (suc a)))) b c step rest) = cc

pub switches_make_no_ring : HasNoFeederRing switch_ring
switches_make_no_ring a lead = elim (switch_steps a a lead) [ inl h ↦ (let e = h.0 in let f = h.1 in cc) | inr h ↦ (let e = h.0 in let f = h.1 in cc) ]

-- from inside a soft macro its `in` port is a root, also for its `out` port that this one feeds
pub port_from_inside : IsRootIn with_macro two_units 1 1 1
port_from_inside = IsRoot.stopped 1 (inl refl)

pub out_port_from_inside : IsRootIn with_macro two_units 1 2 1
out_port_from_inside = IsRoot.fed 2 1 1 (λ there. elim there [ inl same ↦ (let e : 2 ≡ 1 = same in cc) | inr none ↦ none ]) refl port_from_inside

-- from outside both have the root of the net that feeds the `in` port
pub port_from_outside : IsRootIn with_macro two_units 0 1 0
port_from_outside = IsRoot.fed 1 0 0 (λ none. none) refl (IsRoot.unfed 0 refl)

pub out_port_from_outside : IsRootIn with_macro two_units 0 2 0
out_port_from_outside = IsRoot.fed 2 1 0 (λ none. none) refl port_from_outside

-- two sets over the macro's port and the net outside are the same from outside and not from inside
pub same_from_outside : AreSameSet with_macro [] (record { power = 0; ground = None }) (record { power = 1; ground = None })
same_from_outside = (
  record { power = 0; ground = None },
  record { power_root = IsRoot.unfed 0 refl; ground_root = IsGroundRoot.missing },
  record { power_root = port_from_outside; ground_root = IsGroundRoot.missing },
)

pub other_from_inside : ¬ AreSameSet with_macro (1 ∷ []) (record { power = 0; ground = None }) (record { power = 1; ground = None })
other_from_inside same =
    omega (
      arith,
      one_root with_macro (1 ∷ []) 0 0 same.0.power (IsRoot.unfed 0 refl) same.1.power_root,
      one_root with_macro (1 ∷ []) 1 1 same.0.power port_from_inside same.2.power_root,
    )

root_of_none : (g r : Option ℕ) → g ≡ None → IsGroundRoot quiet [] g r → r ≡ None
root_of_none _ _ none IsGroundRoot.missing = refl
root_of_none _ _ none (IsGroundRoot.there supply root is) = cc

root_of_some : (g r : Option ℕ) (n : ℕ) → g ≡ Some n → IsGroundRoot quiet [] g r → r ≢ None
root_of_some _ _ n some IsGroundRoot.missing = cc
root_of_some _ _ n some (IsGroundRoot.there supply root is) = λ e. cc

-- a missing ground is the same as a missing ground alone
pub missing_ground_alone : ¬ AreSameSet quiet [] (record { power = 0; ground = None }) (record { power = 0; ground = Some 1 })
missing_ground_alone same = root_of_some (Some 1) same.0.ground 1 refl same.2.ground_root (root_of_none None same.0.ground refl same.1.ground_root)
