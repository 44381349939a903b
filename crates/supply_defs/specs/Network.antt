-- The supply network: what feeds each supply, and the roots at which feeders end.
use Rattle.std.specs.Prelude.{◌≡◌, ℕ, ◌<◌, List, Option, Some, None, option_map, length, slice_get}
use Rattle.pw_defs.specs.declared.supplies.Supply.{Supply}
use Rattle.list_defs.specs.Members.{IsIn}
use Rattle.list_defs.specs.Rings.{IsReached, HasNoRing}

-- what feeds a supply
abbrev pub feeder_at : List Supply → ℕ → Option (Option ℕ)
feeder_at supplies n = option_map (λ s. s.feeder) (slice_get supplies n)

-- supply a is fed by supply b
abbrev pub IsFedBy : List Supply → ℕ → ℕ → Type 0
IsFedBy supplies a b = feeder_at supplies a ≡ Some (Some b)

-- supply a has no feeder
abbrev pub IsUnfed : List Supply → ℕ → Type 0
IsUnfed supplies a = feeder_at supplies a ≡ Some None

-- the feeders of supply a, one after the other, come to supply b
abbrev pub FeedersLead : List Supply → ℕ → ℕ → Type 0
FeedersLead supplies = IsReached (IsFedBy supplies)

-- no list of feeders comes back to a supply
abbrev pub HasNoFeederRing : List Supply → Type 0
HasNoFeederRing supplies = HasNoRing (IsFedBy supplies)

-- each feeder is one of the supplies
abbrev pub HasFeedersInRange : List Supply → Type 0
HasFeedersInRange supplies = (a b : ℕ) → IsFedBy supplies a b → b < length supplies

-- The root of a supply is the end of its list of feeders. The list ends at a supply without feeder, and at the
-- supplies of `stop`.
pub data IsRoot (supplies : List Supply) (stop : List ℕ) : ℕ → ℕ → Type 0 where
  stopped : (a : ℕ) → IsIn a stop → IsRoot supplies stop a a
  unfed : (a : ℕ) → IsUnfed supplies a → IsRoot supplies stop a a
  fed : (a b root : ℕ) → ¬ IsIn a stop → IsFedBy supplies a b → IsRoot supplies stop b root → IsRoot supplies stop a root
