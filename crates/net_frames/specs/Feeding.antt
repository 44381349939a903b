-- What feeds the bits of instances: their own instances, or links.
use Rattle.std.specs.Prelude.{◌≡◌, ◌⊎◌, ℕ, ◌+◌, ◌<◌, ◌≤◌, true, false, List, Option, Some, length, slice_get, slice_index_or}
use Rattle.pw_defs.specs.declared.cells.Cell.{Cell}
use Rattle.pw_defs.specs.declared.design.Body.{Body}
use Rattle.pw_defs.specs.declared.design.Body.TheVariants.{Cell as CellBody}
use Rattle.pw_defs.specs.declared.design.PortBit.{PortBit}
use Rattle.design_defs.specs.Drivers.{begins_signal_in, passes_on_in}
use Rattle.design_rows.specs.declared.tables.Feed.{Feed}
use Rattle.design_rows.specs.declared.tables.Feed.TheVariants.{Through, Driver}
use Rattle.design_rows.specs.declared.tables.PlaceRow.{PlaceRow}
use Rattle.design_rows.specs.declared.tables.Rows.{Rows}
use Rattle.design_rows.specs.View.{design_of, inst_at, kind_of, no_feed, place_at, port_in, size}

-- what an instance is an instance of
abbrev pub body_in : Rows → ℕ → Body
body_in r inst = (kind_of r (inst_at r inst)).body

-- the place of a bit of an instance
abbrev pub own_place : Rows → ℕ → ℕ → PlaceRow
own_place r inst at = place_at r ((kind_of r (inst_at r inst)).first + at)

-- the port bit that a bit of an instance is
abbrev pub own_port : Rows → ℕ → ℕ → Option PortBit
own_port r inst at = port_in inst (own_place r inst at)

-- no signal begins at the port bit, and it passes none on
pub record IsPlainPort (r : Rows) (inst : ℕ) (p : PortBit) : Type 0 where
  pub no_signal : begins_signal_in (design_of r) (body_in r inst) p ≡ false
  pub not_passing : passes_on_in (design_of r) (body_in r inst) p ≡ false

-- a body is a cell with this through pin
pub record HasThrough (r : Rows) (body : Body) (pin : ℕ) : Type 0 where
  pub number : ℕ
  pub cell : Cell
  pub is_body : body ≡ CellBody number
  pub is_cell : slice_get r.cells.cells number ≡ Some cell
  pub is_through : cell.through ≡ Some pin

-- a place is that of a bit of a port
abbrev pub IsOfPort : PlaceRow → ℕ → Type 0
IsOfPort place port = (owner : ℕ) → (p : PortBit) × (port_in owner place ≡ Some p) × (p.port ≡ port)

-- this bit of an instance is one of the through pin of its cell
pub record IsThroughPin (r : Rows) (inst at : ℕ) : Type 0 where
  pub pin : ℕ
  pub has : HasThrough r (body_in r inst) pin
  pub within : at < size r (inst_at r inst)
  pub of_pin : IsOfPort (own_place r inst at) pin

-- What feeds a bit of an instance that links feed so: a signal begins at it, or it passes on what comes in at the through
-- pin, or it is fed as the links say.
pub data IsFeed (r : Rows) (inst at : ℕ) (linked : Feed) : Feed → Type 0 where
  begins : (p : PortBit) → own_port r inst at ≡ Some p → begins_signal_in (design_of r) (body_in r inst) p ≡ true → IsFeed r inst at linked Driver
  passes : (p : PortBit) (other : ℕ) → own_port r inst at ≡ Some p → passes_on_in (design_of r) (body_in r inst) p ≡ true → IsThroughPin r inst other
      → IsFeed r inst at linked (Through ((inst_at r inst).first_bit + other))
  by_link : ((p : PortBit) → own_port r inst at ≡ Some p → IsPlainPort r inst p) → IsFeed r inst at linked linked

-- the same of a bit by its number
pub record IsBitFeed (r : Rows) (n : ℕ) (linked made : Feed) : Type 0 where
  pub inst : ℕ
  pub at : ℕ
  pub there : inst < length r.insts
  pub within : at < size r (inst_at r inst)
  pub number : (inst_at r inst).first_bit + at ≡ n
  pub fed : IsFeed r inst at linked made

-- what feeds a bit
abbrev pub feed_of : List Feed → ℕ → Feed
feed_of feeds n = slice_index_or feeds n no_feed

-- the bits from one to another are fed so, and the others as before
pub record AreFedBetween (r : Rows) (low high : ℕ) (old new : List Feed) : Type 0 where
  pub count : length new ≡ length old
  pub inside : (n : ℕ) → low ≤ n → n < high → IsBitFeed r n (feed_of old n) (feed_of new n)
  pub outside : (n : ℕ) → (n < low) ⊎ (high ≤ n) → feed_of new n ≡ feed_of old n
