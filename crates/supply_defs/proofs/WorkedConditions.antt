-- Sets as conditions, and what a state shows.
use Rattle.std.proofs.Common.{ℕ, ◌≡◌, true, false, [], ◌∷◌, Some, None, inl, inr, refl, ap, ◌∙◌}
use Rattle.pw_defs.specs.declared.conditions.Cond.TheVariants.{On as IsOn, All}
use Rattle.pw_defs.specs.declared.intent.SupplySet.{SupplySet}
use Rattle.pw_defs.specs.declared.values.Value.TheVariants.{Off, On}
use Rattle.supply_defs.specs.Conditions.{holds}
use Rattle.supply_defs.specs.SetConditions.{set_on, set_off, sets_differ, SomeShows, NoneShows}
use Rattle.supply_defs.specs.Places.{value_at}
use Rattle.supply_defs.specs.States.{value_in}
use Rattle.supply_defs.proofs.Meaning.{holding}

-- a set without ground
abbrev alone : ℕ → SupplySet
alone power = record { power = power; ground = None }

-- a set without ground is on where its power is, spelled as all of one
pub set_without_ground : set_on (record { power = 3; ground = None }) ≡ All (IsOn 3 ∷ [])
set_without_ground = refl

pub set_with_ground : set_on (record { power = 3; ground = Some 5 }) ≡ All (IsOn 3 ∷ IsOn 5 ∷ [])
set_with_ground = refl

-- the set is off where its ground alone is off
pub off_by_ground : holds (value_in (On 800000 ∷ Off ∷ [])) (set_off (record { power = 0; ground = Some 1 })) ≡ true
off_by_ground = simp holding

-- of two states one shows that the first supply is off
pub one_of_two_shows : SomeShows value_in ((On 800000 ∷ []) ∷ (Off ∷ []) ∷ []) (set_off (alone 0))
one_of_two_shows = (Off ∷ [], inr (inl refl), simp holding)

pub none_of_one_shows : NoneShows value_in ((On 800000 ∷ []) ∷ []) (set_off (alone 0))
none_of_one_shows state (inl same) =
    ap (λ s. holds (value_in s) (set_off (alone 0))) same ∙ simp holding
none_of_one_shows state (inr none) = absurd none

-- a difference of the threshold itself is none, and one of a microvolt more is
pub at_threshold : holds (value_in (On 800000 ∷ On 900000 ∷ [])) (sets_differ (alone 0) (alone 1) 100000) ≡ false
at_threshold = simp holding

pub above_threshold : holds (value_in (On 800000 ∷ On 900000 ∷ [])) (sets_differ (alone 0) (alone 1) 99999) ≡ true
above_threshold = simp holding

-- two supplies behind one root have its value
pub one_root_one_value : value_at (1 ∷ 0 ∷ 1 ∷ []) (Off ∷ On 800000 ∷ []) 0 ≡ value_at (1 ∷ 0 ∷ 1 ∷ []) (Off ∷ On 800000 ∷ []) 2
one_root_one_value = refl
