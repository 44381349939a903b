-- A supply has one place in an order of roots, and the conditions of an intent may be put on places.
use Rattle.std.proofs.Common.{◌≡◌, ℕ, ◌<◌, List, [], ◌∷◌, Some, length, map, slice_get, slice_index, refl, sym, ◌∙◌, arith}
use Rattle.std.specs.List.{list_all}
use Rattle.std.proofs.lemmas.Grind.{same_number_lists}
use Rattle.pw_defs.specs.declared.conditions.Cond.{Cond}
use Rattle.pw_defs.specs.declared.supplies.Supply.{Supply}
use Rattle.pw_defs.specs.declared.values.Value.{Value}
use Rattle.supply_defs.specs.Conditions.{holds}
use Rattle.supply_defs.specs.Network.{IsRoot, HasNoFeederRing, HasFeedersInRange}
use Rattle.supply_defs.specs.Places.{ArePlaces, placed, value_at}
use Rattle.supply_defs.specs.States.{meets}
use Rattle.supply_defs.proofs.Placing.{holds_placed}
use Rattle.supply_defs.proofs.Roots.{some_root}

-- where no root stands twice in the order, supplies have one list of places
pub one_list_of_places : (supplies : List Supply) (order xs ys : List ℕ) → HasNoFeederRing supplies → HasFeedersInRange supplies
    → ((i j root : ℕ) → slice_get order i ≡ Some root → slice_get order j ≡ Some root → i ≡ j) → ArePlaces supplies order xs
    → ArePlaces supplies order ys → xs ≡ ys
one_list_of_places supplies order xs ys ringless within once h k = same_number_lists xs ys (h.count ∙ sym k.count) (λ n there.
    let below : n < length supplies = omega (arith, h.count) in
    let root : (r : ℕ) × IsRoot supplies [] n r = some_root supplies ringless within [] n below in
    once (slice_index xs n) (slice_index ys n) root.0 (h.each n root.0 root.1) (k.each n root.0 root.1))

-- all conditions of places hold in a state exactly where the conditions of the supplies do
pub meets_placed : (places : List ℕ) (state : List Value) (conds : List Cond)
    → meets (map (placed places) conds) state ≡ list_all (holds (value_at places state)) conds
meets_placed places state [] = refl
meets_placed places state (c ∷ cs) = rw (holds_placed places state c, meets_placed places state cs) refl
