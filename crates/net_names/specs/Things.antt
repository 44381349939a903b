-- The things of a hierarchy in the order in which their names are met, and those whose names were met before.
use Rattle.std.specs.Prelude.{◌≡◌, ◌≢◌, ◌⊎◌, ◌<◌, ℕ, suc, List, Some, MatchOption, slice_get}
use Rattle.std.specs.declared.cmp.Ordering.TheVariants.{Less}
use Rattle.list_defs.specs.Members.{IsIn}
use Rattle.list_defs.specs.Orders.{IsLeast}
use Rattle.design_defs.specs.DesignFaults.{HasThingName, StandsAt, Thing, way_of}
use Rattle.design_defs.specs.Hierarchy.{Sources, Way, way_cmp}
use Rattle.net_names.specs.Meets.{name_at_cmp}
use Rattle.net_names.specs.declared.meeting.Meeting.{Meeting}
use Rattle.net_names.specs.declared.meeting.NameAt.{NameAt}
use Rattle.net_names.specs.declared.meeting.Place.{Place}

-- At one instance that itself comes first, then port by port, each before its bits: the number of the port, from 1 on.
abbrev pub port_rank : Thing → ℕ
port_rank (Thing.instance way) = 0
port_rank (Thing.port way number) = suc number
port_rank (Thing.vector_bit way number place) = suc number

-- the place among the bits of its port, from 1 on, and 0 for what is no bit
abbrev pub bit_rank : Thing → ℕ
bit_rank (Thing.instance way) = 0
bit_rank (Thing.port way number) = 0
bit_rank (Thing.vector_bit way number place) = suc place

-- the thing comes before that of these ranks, both at one instance
abbrev pub RanksBelow : ℕ → ℕ → Thing → Type 0
RanksBelow port bit x = (port_rank x < port) ⊎ ((port_rank x ≡ port) × (bit_rank x < bit))

-- the thing is at an earlier instance than the one of a number, or there and before that of these ranks
pub record IsBelow (ways : List Way) (number port bit : ℕ) (x : Thing) : Type 0 where
  pub at : ℕ
  pub there : slice_get ways at ≡ Some (way_of x)
  pub below : (at < number) ⊎ ((at ≡ number) × RanksBelow port bit x)

-- the thing stands at this place
pub record HasPlace (s : Sources) (ways : List Way) (x : Thing) (place : Place) : Type 0 where
  pub way : Way
  pub number : ℕ
  pub there : slice_get ways place.holder ≡ Some way
  pub stands : StandsAt s x way number place.line

-- among some things two have this name, and this is the place of the later one
pub record IsTwice (s : Sources) (ways : List Way) (P : Thing → Type 0) (at : NameAt) : Type 0 where
  pub x : Thing
  pub y : Thing
  pub has_x : P x
  pub has_y : P y
  pub of_x : HasThingName s x at.name
  pub of_y : HasThingName s y at.name
  pub other : x ≢ y
  pub later : way_cmp (way_of y) (way_of x) ≢ Less
  pub stands : HasPlace s ways y at.place

-- the names of some things were met, and the first of those that two of them have is known
pub record HasMet (s : Sources) (ways : List Way) (P : Thing → Type 0) (m : Meeting) : Type 0 where
  pub known : (x : Thing) (name : List ℕ) → P x → HasThingName s x name → IsIn name m.names
  pub from : (name : List ℕ) → IsIn name m.names → (x : Thing) × P x × HasThingName s x name
  pub first : MatchOption m.first ((at : NameAt) → IsTwice s ways P at → ⊥) (λ at. IsLeast name_at_cmp (IsTwice s ways P) at)
