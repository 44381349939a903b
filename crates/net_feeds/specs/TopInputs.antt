-- The input bits of the top, by their numbers.
use Rattle.std.specs.Prelude.{◌≡◌, ℕ, ◌+◌, ◌<◌, ◌≤◌, ◌⊎◌, ◌↔◌, Bool, List, Option, Some, None, length, slice_get}
use Rattle.pw_defs.specs.declared.cells.Dir.TheVariants.{Input}
use Rattle.pw_defs.specs.declared.design.Body.TheVariants.{Module as ModuleBody}
use Rattle.pw_defs.specs.declared.netlist.Port.{Port}
use Rattle.design_defs.specs.Bits.{Spot}
use Rattle.design_defs.specs.DesignFaults.{IsTopInput}
use Rattle.design_defs.specs.Hierarchy.{Sources}
use Rattle.design_defs.specs.Ranges.{width}
use Rattle.module_rows.specs.declared.plain.Netlist.{Netlist}
use Rattle.module_rows.specs.Reads.{module_at}
use Rattle.net_places.specs.Plans.{rows_at}
use Rattle.net_places.specs.declared.plans.Plans.{Plans}
use Rattle.net_places.specs.declared.rows.NetRow.{NetRow}
use Rattle.net_feeds.specs.Marked.{IsMarked}

-- a module has an input of this number among its ports
abbrev pub IsInputPort : Netlist → ℕ → Option ℕ → Type 0
IsInputPort n holder None = ⊥
IsInputPort n holder (Some port) = (p : Port) × (slice_get (module_at n holder).ports port ≡ Some p) × (p.dir ≡ Input)

-- the bit is one of so many from one on
abbrev pub IsWithin : ℕ → ℕ → ℕ → Type 0
IsWithin first count bit = (first ≤ bit) × (bit < first + count)

-- the bit is one of a net of a module, and the net is an input
pub record IsInputBit (n : Netlist) (plans : Plans) (holder net bit : ℕ) : Type 0 where
  pub row : NetRow
  pub there : slice_get (rows_at plans (ModuleBody holder)) net ≡ Some row
  pub input : IsInputPort n holder row.port
  pub within : IsWithin row.first (width row.range) bit

-- the same for one of the first nets
abbrev pub IsInputBitOf : Netlist → Plans → ℕ → ℕ → ℕ → Type 0
IsInputBitOf n plans holder count bit = (net : ℕ) × (net < count) × IsInputBit n plans holder net bit

-- besides those that had a mark, bits of which this holds have one
pub record AreMarkedAlso (P : ℕ → Type 0) (old new : List Bool) : Type 0 where
  pub same : length new ≡ length old
  pub marked : (bit : ℕ) → bit < length old → IsMarked new bit ↔ (IsMarked old bit ⊎ P bit)

-- the bits that have a mark are the input bits of the top
pub record AreTopMarks (s : Sources) (spots : List Spot) (marks : List Bool) : Type 0 where
  pub all : length marks ≡ length spots
  pub each : (bit : ℕ) (x : Spot) → slice_get spots bit ≡ Some x → IsMarked marks bit ↔ IsTopInput s x
