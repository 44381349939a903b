-- For each supply one further up its feeders, by which the end of its feeders is found.
use Rattle.std.specs.Prelude.{◌≡◌, ℕ, ◌<◌, ◌⊎◌, List, Option, Some, length, slice_get}
use Rattle.pw_defs.specs.declared.supplies.Supply.{Supply}
use Rattle.supply_defs.specs.Network.{IsUnfed, FeedersLead, HasNoFeederRing, HasFeedersInRange}

-- supply a is supply b, or its feeders lead there
abbrev pub LeadsTo : List Supply → ℕ → ℕ → Type 0
LeadsTo supplies a b = (a ≡ b) ⊎ FeedersLead supplies a b

-- a supply without feeder, which is itself, or one that feeders lead to
abbrev pub IsAbove : List Supply → ℕ → ℕ → Type 0
IsAbove supplies a b = ((a ≡ b) × IsUnfed supplies a) ⊎ FeedersLead supplies a b

-- for each supply one above it
pub record AreAbove (supplies : List Supply) (above : List ℕ) : Type 0 where
  pub count : length above ≡ length supplies
  pub each : (a b : ℕ) → slice_get above a ≡ Some b → IsAbove supplies a b

-- the end of the feeders of a supply
pub record IsTop (supplies : List Supply) (a top : ℕ) : Type 0 where
  pub unfed : IsUnfed supplies top
  pub leads : LeadsTo supplies a top

-- feeders are supplies and make no ring
pub record AreFeeders (supplies : List Supply) : Type 0 where
  pub in_range : HasFeedersInRange supplies
  pub ringless : HasNoFeederRing supplies

-- the feeder of a supply that is new is one of those that were there, if there is one
abbrev pub IsFitting : List Supply → Option ℕ → Type 0
IsFitting old feeder = (f : ℕ) → feeder ≡ Some f → f < length old
