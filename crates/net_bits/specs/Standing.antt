-- Where bits stand, by their numbers.
use Rattle.std.specs.Prelude.{◌≡◌, ℕ, ◌+◌, ◌<◌, ◌≤◌, List, [], ◌∷◌, Some, slice_get}
use Rattle.design_defs.specs.Bits.{Spot, range_in}
use Rattle.design_defs.specs.Hierarchy.{Sources, Way, body_at}
use Rattle.net_places.specs.Plans.{names_in}
use Rattle.net_instances.specs.declared.numbering.InstanceRow.{InstanceRow}
use Rattle.net_bits.specs.declared.owners.BitPlace.{BitPlace}

-- So many begin at or before a number: the last of them does, and the next one begins behind it.
pub record IsBegun {X : Type 0} (first : X → ℕ) (xs : List X) (number count : ℕ) : Type 0 where
  pub last : (k : ℕ) (x : X) → k + 1 ≡ count → slice_get xs k ≡ Some x → first x ≤ number
  pub next : (x : X) → slice_get xs count ≡ Some x → number < first x

-- the last that begins at or before a number
pub record IsLastBegun {X : Type 0} (first : X → ℕ) (xs : List X) (number place : ℕ) (x : X) : Type 0 where
  pub there : slice_get xs place ≡ Some x
  pub before : first x ≤ number
  pub next : (y : X) → slice_get xs (place + 1) ≡ Some y → number < first y

-- the symbols of the names of an instance and of those that it is inside, its own first; the top has none
pub data AreNamesUp (rows : List InstanceRow) : ℕ → List ℕ → Type 0 where
  top : AreNamesUp rows 0 []
  inner : (n : ℕ) (row : InstanceRow) (outer : List ℕ) → 0 < n → slice_get rows n ≡ Some row → AreNamesUp rows row.parent outer → AreNamesUp rows n (row.name ∷ outer)

-- the bit is at this place of this net of this instance, which is of this body
pub record IsPlaceOf (s : Sources) (symbols : List (List ℕ)) (ways : List Way) (x : Spot) (at : BitPlace) : Type 0 where
  pub way : slice_get ways at.owner ≡ Some x.way
  pub body : body_at s x.way ≡ Some at.body
  pub net : slice_get (names_in symbols s at.body) at.name ≡ Some x.net
  pub range : range_in s at.body x.net ≡ Some at.range
  pub place : x.place ≡ at.place
