-- Bits by their numbers, and what feeds each of them.
use Rattle.std.specs.Prelude.{◌≡◌, ℕ, ◌≤◌, true, List, [], Some, get_or, map, length, slice_get}
use Rattle.std.specs.List.{slice_range}
use Rattle.list_defs.specs.Members.{IsIn}
use Rattle.net_rings.specs.declared.graphs.BitRow.{BitRow}
use Rattle.net_rings.specs.declared.graphs.Rows.{Rows}

-- One bit is fed by another, where each bit has a list of those that feed it.
abbrev pub IsFedBy : List (List ℕ) → ℕ → ℕ → Type 0
IsFedBy sources fed source = IsIn source (get_or sources fed [])

-- what feeds the bit of a row
abbrev pub sources_at : List ℕ → BitRow → List ℕ
sources_at all b = slice_range all b.first b.end

-- what feeds each bit
abbrev pub sources_of : Rows → List (List ℕ)
sources_of r = map (sources_at r.sources.items) r.bits.items

-- a row names a part of the sources
abbrev pub IsRow : List ℕ → BitRow → Type 0
IsRow all b = (b.first ≤ b.end) × (b.end ≤ length all)

-- each bit's sources are a part of all
pub record AreRows (r : Rows) : Type 0 where
  pub each : (n : ℕ) (b : BitRow) → slice_get r.bits.items n ≡ Some b → IsRow r.sources.items b
  pub few : length r.sources.items ≤ 4294967295
  pub few_bits : length r.bits.items ≤ 4294967295

-- the bit is there
abbrev pub IsThere : List BitRow → ℕ → Type 0
IsThere bits n = (b : BitRow) × (slice_get bits n ≡ Some b) × (b.there ≡ true)

-- all bits are there
abbrev pub AreThere : List BitRow → Type 0
AreThere bits = (n : ℕ) (b : BitRow) → slice_get bits n ≡ Some b → b.there ≡ true

-- one bit is fed by another that is there
abbrev pub IsFedByThere : Rows → ℕ → ℕ → Type 0
IsFedByThere r fed source = IsFedBy (sources_of r) fed source × IsThere r.bits.items source
