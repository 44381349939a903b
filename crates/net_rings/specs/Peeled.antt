-- Bits that are taken away, since they can't be on a ring of those that are left.
use Rattle.std.specs.Prelude.{◌≡◌, ℕ, ◌<◌, ◌≤◌, false, List, Some, get_or, length, set, slice_get, nat_eq, if◌then◌else◌}
use Rattle.std.specs.List.{count_by, sum_by}
use Rattle.list_defs.specs.Members.{IsIn}
use Rattle.net_rings.specs.Fed.{AreRows, IsFedBy, IsThere, sources_at, sources_of}
use Rattle.net_rings.specs.declared.cores.Core.{Core}
use Rattle.net_rings.specs.declared.graphs.BitRow.{BitRow}
use Rattle.net_rings.specs.declared.graphs.Rows.{Rows}

-- A bit is gone: it was taken, or it feeds none but those that are gone.
pub data IsGone (sources : List (List ℕ)) (taken : List ℕ) : ℕ → Type 0 where
  was_taken : (n : ℕ) → IsIn n taken → IsGone sources taken n
  unused : (n : ℕ) → ((fed : ℕ) → IsFedBy sources fed n → IsGone sources taken fed) → IsGone sources taken n

-- one bit that isn't taken feeds another
abbrev pub IsFedByLeft : List (List ℕ) → List ℕ → ℕ → ℕ → Type 0
IsFedByLeft sources taken fed source = IsFedBy sources fed source × (IsIn source taken → ⊥)

-- how often the bit of a row is fed by a bit, where it is there
abbrev pub uses_in : List ℕ → ℕ → BitRow → ℕ
uses_in all n b = if b.there then count_by (nat_eq n) (sources_at all b) else 0

-- how often bits that are there are fed by a bit
abbrev pub uses_of : List ℕ → List BitRow → ℕ → ℕ
uses_of all bits n = sum_by (uses_in all n) bits

-- of each bit at least as many uses are counted as there are
pub record AreCounted (all : List ℕ) (bits : List BitRow) (counts : List ℕ) : Type 0 where
  pub all_bits : length counts ≡ length bits
  pub each : (n : ℕ) → n < length counts → uses_of all bits n ≤ get_or counts n 0

-- What is left of the bits whose sources these are: those that aren't there are gone, and none is there that was taken.
pub record IsPeeled (sources : List (List ℕ)) (taken : List ℕ) (r : Rows) : Type 0 where
  pub rows : AreRows r
  pub same : sources_of r ≡ sources
  pub gone : (n : ℕ) (b : BitRow) → slice_get r.bits.items n ≡ Some b → b.there ≡ false → IsGone sources taken n
  pub taken_away : (n : ℕ) → IsIn n taken → IsThere r.bits.items n → ⊥

-- What is left, with uses that are counted.
pub record IsCore (sources : List (List ℕ)) (taken : List ℕ) (c : Core) : Type 0 where
  pub peeled : IsPeeled sources taken c.rows
  pub counted : AreCounted c.rows.sources.items c.rows.bits.items c.uses.items

-- the same rows without one bit, with uses that are counted
pub record IsWithout (old new : Core) (n : ℕ) : Type 0 where
  pub sources : new.rows.sources.items ≡ old.rows.sources.items
  pub row : BitRow
  pub was_there : slice_get old.rows.bits.items n ≡ Some row
  pub bits : new.rows.bits.items ≡ set old.rows.bits.items n (record { first = row.first; end = row.end; there = false })
  pub counted : AreCounted new.rows.sources.items new.rows.bits.items new.uses.items
