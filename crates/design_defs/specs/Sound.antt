-- Sound designs.
use Rattle.std.specs.Prelude.{◌≡◌, ℕ, ◌<◌, ◌↔◌, true, List, Some, None, IfSome, length, slice_get}
use Rattle.pw_defs.specs.declared.cells.Cell.{Cell}
use Rattle.pw_defs.specs.declared.chains.Element.{Element}
use Rattle.pw_defs.specs.declared.chains.Partial.TheVariants.{Feed}
use Rattle.pw_defs.specs.declared.design.Bit.{Bit}
use Rattle.pw_defs.specs.declared.design.Body.{Body}
use Rattle.pw_defs.specs.declared.design.Body.TheVariants.{Module, Cell as CellBody, Model}
use Rattle.pw_defs.specs.declared.design.Design.{Design}
use Rattle.pw_defs.specs.declared.design.Feeder.{Feeder}
use Rattle.pw_defs.specs.declared.design.Feeder.TheVariants.{Bit as BitFeeder, Through, Driver, Constant, Nothing}
use Rattle.pw_defs.specs.declared.design.Instance.{Instance}
use Rattle.pw_defs.specs.declared.design.PortBit.{PortBit}
use Rattle.pw_defs.specs.declared.model.Model.{Model as ModelOf}
use Rattle.pw_defs.specs.declared.netlist.Port.{Port}
use Rattle.list_defs.specs.Members.{IsIn}
use Rattle.design_defs.specs.Alike.{HasModulesAlike}
use Rattle.design_defs.specs.Drivers.{begins_signal, passes_on}
use Rattle.design_defs.specs.Joined.{HaveOwnNames, parent_of}
use Rattle.design_defs.specs.Models.{HasWellFormedFields}
use Rattle.design_defs.specs.Ports.{IsPortBit, body_of}
use Rattle.design_defs.specs.Ranges.{bit_name}
use Rattle.list_defs.specs.Rings.{HasNoRing}
use Rattle.design_defs.specs.Walks.{feeder_at, next_of}

-- NUMBERS. The through pin and the enable pin of a cell are pins of it.
pub record HasItsPins (c : Cell) : Type 0 where
  pub through_in : IfSome c.through (λ pin. pin < length c.pins)
  pub enable_in : IfSome c.enable (λ pin. pin < length c.pins)

-- what an instance is of is there
abbrev pub IsBodyIn : Design → Body → Type 0
IsBodyIn d (Module m) = m < length d.modules
IsBodyIn d (CellBody c) = c < length d.cells.cells
IsBodyIn d (Model m) = m < length d.models

-- what a feeder names is there
abbrev pub IsFeederIn : Design → Feeder → Type 0
IsFeederIn d (BitFeeder n) = n < length d.bits
IsFeederIn d (Through inst bit) = (inst < length d.insts) × (bit < length d.bits)
IsFeederIn d (Driver p) = IsPortBit d p
IsFeederIn d Constant = Unit {0}
IsFeederIn d Nothing = Unit {0}

-- what an instance is inside and what it is of are there
pub record IsInstanceIn (d : Design) (i : Instance) : Type 0 where
  pub parent_in : IfSome i.parent (λ p. p < length d.insts)
  pub body_in : IsBodyIn d i.body

-- the owner, the port bit and the feeder of a bit are there
pub record IsBitIn (d : Design) (b : Bit) : Type 0 where
  pub owner_in : b.owner < length d.insts
  pub port_in : IfSome b.port (IsPortBit d)
  pub feeder_in : IsFeederIn d b.feeder

-- each number is that of something that the design has
pub record HasNumbersInRange (d : Design) : Type 0 where
  pub each_cell : (n : ℕ) (c : Cell) → slice_get d.cells.cells n ≡ Some c → HasItsPins c
  pub each_instance : (n : ℕ) (i : Instance) → slice_get d.insts n ≡ Some i → IsInstanceIn d i
  pub each_bit : (n : ℕ) (b : Bit) → slice_get d.bits n ≡ Some b → IsBitIn d b

-- HIERARCHY. An instance is of a module.
abbrev pub IsInstanceOfModule : Design → ℕ → Type 0
IsInstanceOfModule d inst = (m : ℕ) × (body_of d inst ≡ Some (Module m))

-- the first instance is of a module, and it alone is inside no other
pub record HasTop (d : Design) : Type 0 where
  pub first : IsInstanceOfModule d 0
  pub alone : (n : ℕ) (i : Instance) → slice_get d.insts n ≡ Some i → (i.parent ≡ None) ↔ (n ≡ 0)

-- an instance comes behind the one that it is inside, and that one is of a module
abbrev pub HasParentsFirst : Design → Type 0
HasParentsFirst d = (n p : ℕ) → parent_of d n ≡ Some (Some p) → (p < n) × IsInstanceOfModule d p

-- PORT BITS. n is the number of a bit that is this port bit.
abbrev pub IsBitOf : Design → PortBit → ℕ → Type 0
IsBitOf d p n = (b : Bit) × (slice_get d.bits n ≡ Some b) × (b.port ≡ Some p)

-- a port bit is one bit, and its instance owns that
pub record IsOneBit (d : Design) (p : PortBit) : Type 0 where
  pub number : ℕ
  pub bit : Bit
  pub there : slice_get d.bits number ≡ Some bit
  pub is_port_bit : bit.port ≡ Some p
  pub owned : bit.owner ≡ p.inst
  pub alone : (n : ℕ) → IsBitOf d p n → n ≡ number

-- each port bit of each instance is one bit, and the instance owns it
abbrev pub HasPortBits : Design → Type 0
HasPortBits d = (p : PortBit) → IsPortBit d p → IsOneBit d p

-- RINGS. A model says that its output bit is fed by this input bit.
pub record SaysFed (m : ModelOf) (out_port out_place in_port in_place : ℕ) : Type 0 where
  pub output : Port
  pub input : Port
  pub is_output_port : slice_get m.ports out_port ≡ Some output
  pub is_input_port : slice_get m.ports in_port ≡ Some input
  pub elements : List Element
  pub line : IsIn (Feed (bit_name output.name output.range out_place) (bit_name input.name input.range in_place) elements) m.partials

-- A bit is fed by another one: by the one that its feeder leads to, or, at an output of a modelled instance, by the
-- input of that instance that the model names.
pub data IsFedBy (d : Design) (n next : ℕ) : Type 0 where
  feeder : (f : Feeder) → feeder_at d.bits n ≡ Some f → next_of f ≡ Some next → IsFedBy d n next
  model : (p q : PortBit) (m : ℕ) (of_model : ModelOf) → feeder_at d.bits n ≡ Some (Driver p) → body_of d p.inst ≡ Some (Model m)
      → slice_get d.models m ≡ Some of_model → q.inst ≡ p.inst → SaysFed of_model p.port p.place q.port q.place → IsBitOf d q next → IsFedBy d n next

-- FEEDERS. The bit of the through pin of an instance of an isolation cell or level shifter.
pub record IsThroughBit (d : Design) (inst bit : ℕ) : Type 0 where
  pub cell_number : ℕ
  pub cell : Cell
  pub pin : ℕ
  pub is_cell : body_of d inst ≡ Some (CellBody cell_number)
  pub has_cell : slice_get d.cells.cells cell_number ≡ Some cell
  pub has_pin : cell.through ≡ Some pin
  pub is_bit : IsBitOf d (record { inst = inst; port = pin; place = 0 }) bit

-- A bit is fed through this instance from this bit.
pub record PassesOn (d : Design) (b : Bit) (inst bit : ℕ) : Type 0 where
  pub port : PortBit
  pub is_port : b.port ≡ Some port
  pub interface_output : passes_on d port ≡ true
  pub of_instance : port.inst ≡ inst
  pub through : IsThroughBit d inst bit

-- `Through` stands exactly at the output pins of isolation cells and level shifters, with the cell and the bit of its through pin
abbrev pub HasThroughThere : Design → Type 0
HasThroughThere d =
    (n : ℕ) (b : Bit) (inst bit : ℕ) → slice_get d.bits n ≡ Some b → (b.feeder ≡ Through inst bit) ↔ PassesOn d b inst bit

-- `Driver` stands exactly at the output pins of other cells, the output bits of modelled instances and the input bits
-- of the top, with that port bit
abbrev pub HasDriversThere : Design → Type 0
HasDriversThere d =
    (n : ℕ) (b : Bit) (p : PortBit) → slice_get d.bits n ≡ Some b → (b.feeder ≡ Driver p) ↔ ((b.port ≡ Some p) × (begins_signal d p ≡ true))

-- each model that the design holds is well-formed
abbrev pub HasWellFormedModels : Design → Type 0
HasWellFormedModels d = (n : ℕ) (m : ModelOf) → slice_get d.models n ≡ Some m → HasWellFormedFields m

-- Numbers are in range; there is a top; parents come first; port bits are one bit each; names are unique and models
-- well-formed; no list of feeders comes back; interface cells and drivers are where they belong; modules are alike.
pub record IsSoundDesign (d : Design) : Type 0 where
  pub numbers : HasNumbersInRange d
  pub top : HasTop d
  pub parents_first : HasParentsFirst d
  pub port_bits : HasPortBits d
  pub own_names : HaveOwnNames d
  pub models : HasWellFormedModels d
  pub no_ring : HasNoRing (IsFedBy d)
  pub through_there : HasThroughThere d
  pub drivers_there : HasDriversThere d
  pub modules_alike : HasModulesAlike d
