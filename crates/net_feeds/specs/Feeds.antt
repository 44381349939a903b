-- What feeds the bits of a hierarchy by links.
use Rattle.std.specs.Prelude.{◌≡◌, ℕ, List, Option, Some, None, slice_get}
use Rattle.std.specs.List.{AllZip}
use Rattle.design_defs.specs.Bits.{Spot}
use Rattle.design_defs.specs.Designs.{IsLinked}
use Rattle.design_defs.specs.Hierarchy.{Sources}
use Rattle.design_rows.specs.declared.tables.Feed.{Feed}
use Rattle.design_rows.specs.declared.tables.Feed.TheVariants.{Bit as BitFeed, Constant, Nothing}

-- what a link feeds a bit with
pub data IsFedSo (s : Sources) (spots : List Spot) (x : Spot) : Feed → Type 0 where
  bit : (source : Spot) (n : ℕ) → IsLinked s x (Some source) → slice_get spots n ≡ Some source → IsFedSo s spots x (BitFeed n)
  constant : IsLinked s x None → IsFedSo s spots x Constant
  nothing : ((source : Option Spot) → IsLinked s x source → ⊥) → IsFedSo s spots x Nothing

-- the same for each bit
abbrev pub AreFedSo : Sources → List Spot → List Feed → Type 0
AreFedSo s spots feeds = AllZip (IsFedSo s spots) spots feeds
