-- What feeds each bit of a design, by the numbers of bits.
use Rattle.std.specs.Prelude.{◌≡◌, ◌<◌, ℕ, ◌+◌, ◌-◌, List, [], ◌++◌, Option, Some, None, get_or, length, option_map, slice_get}
use Rattle.std.specs.Option.{option_to_list}
use Rattle.design_rows.specs.declared.tables.Feed.{Feed}
use Rattle.design_rows.specs.declared.tables.Feed.TheVariants.{Bit as BitFeed, Through, Driver, Constant, Nothing}
use Rattle.net_bits.specs.Standing.{IsLastBegun}
use Rattle.net_inner.specs.Inside.{source_in}
use Rattle.net_inner.specs.declared.inner.Inner.{Inner}
use Rattle.net_instances.specs.declared.numbering.InstanceRow.{InstanceRow}

-- the bit at the other end of a link
abbrev pub linked_bit : Option Feed → Option ℕ
linked_bit None = None
linked_bit (Some (BitFeed n)) = Some n
linked_bit (Some (Through n)) = None
linked_bit (Some Driver) = None
linked_bit (Some Constant) = None
linked_bit (Some Nothing) = None

-- the bit that feeds another one inside an instance that both are of
abbrev pub inner_bit : Inner → InstanceRow → ℕ → Option ℕ
inner_bit inner row bit = option_map (λ local. row.first_bit + local) (source_in inner row.body (bit - row.first_bit))

-- what feeds a bit is the bit at the other end of its link, and the bit that feeds it inside its instance
pub record IsGraphRow (rows : List InstanceRow) (inner : Inner) (feeds : List Feed) (bit : ℕ) (sources : List ℕ) : Type 0 where
  pub owner : ℕ
  pub row : InstanceRow
  pub last : IsLastBegun (λ (r : InstanceRow). r.first_bit) rows bit owner row
  pub is : sources ≡ option_to_list (linked_bit (slice_get feeds bit)) ++ option_to_list (inner_bit inner row bit)

-- the first instance begins with the first bit
abbrev pub BeginsFirst : List InstanceRow → Type 0
BeginsFirst rows = (row : InstanceRow) → slice_get rows 0 ≡ Some row → row.first_bit ≡ 0

-- each bit has what feeds it
pub record IsGraph (rows : List InstanceRow) (inner : Inner) (feeds : List Feed) (graph : List (List ℕ)) : Type 0 where
  pub count : length graph ≡ length feeds
  pub each : BeginsFirst rows → (bit : ℕ) → bit < length feeds → IsGraphRow rows inner feeds bit (get_or graph bit [])
