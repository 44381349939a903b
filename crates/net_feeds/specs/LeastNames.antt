-- The least name of some bits.
use Rattle.std.specs.Prelude.{◌≡◌, ◌≢◌, ◌⊎◌, ℕ, List, Option, Some, None, slice_get}
use Rattle.std.specs.declared.cmp.Ordering.TheVariants.{Less}
use Rattle.list_defs.specs.Members.{IsIn}
use Rattle.list_defs.specs.Orders.{name_cmp}
use Rattle.design_defs.specs.Bits.{HasSpotName, Spot}
use Rattle.design_defs.specs.Hierarchy.{Sources}

-- the bit of this number has this name and no other
abbrev pub IsNameOf : Sources → List Spot → ℕ → List ℕ → Type 0
IsNameOf s spots bit name = (x : Spot) (other : List ℕ) → slice_get spots bit ≡ Some x → HasSpotName s x other → name ≡ other

-- one of the bits has this name, and none has a name before it
pub record IsLeastName (s : Sources) (spots : List Spot) (bits : List ℕ) (name : List ℕ) : Type 0 where
  pub bit : ℕ
  pub one : IsIn bit bits
  pub named : IsNameOf s spots bit name
  pub least : (b : ℕ) (x : Spot) (other : List ℕ) → IsIn b bits → slice_get spots b ≡ Some x → HasSpotName s x other → name_cmp other name ≢ Less

-- the same, or that there are no bits
abbrev pub IsLeastOrNone : Sources → List Spot → List ℕ → Option (List ℕ) → Type 0
IsLeastOrNone s spots bits None = (bit : ℕ) → IsIn bit bits → ⊥
IsLeastOrNone s spots bits (Some name) = IsLeastName s spots bits name

-- the lesser of two names, of which the first may not be there
abbrev pub IsLesser : Option (List ℕ) → List ℕ → List ℕ → Type 0
IsLesser None next result = result ≡ next
IsLesser (Some best) next result = ((name_cmp next best ≡ Less) × (result ≡ next)) ⊎ ((name_cmp next best ≢ Less) × (result ≡ best))
