-- The design that modules, cells and models make below a top.
use Rattle.std.specs.Prelude.{◌≡◌, ℕ, Bool, false, true, List, [], ◌∷◌, Option, Some, None, map, slice_get}
use Rattle.std.specs.List.{AllZip}
use Rattle.pw_defs.specs.declared.design.Bit.{Bit}
use Rattle.pw_defs.specs.declared.design.Design.{Design}
use Rattle.pw_defs.specs.declared.design.Feeder.TheVariants.{Bit as BitFeeder, Through, Driver, Constant, Nothing}
use Rattle.pw_defs.specs.declared.design.Instance.{Instance}
use Rattle.pw_defs.specs.declared.design.PortBit.{PortBit}
use Rattle.pw_defs.specs.declared.netlist.Module.{Module}
use Rattle.list_defs.specs.Orders.{AreAllRising}
use Rattle.design_defs.specs.Bits.{HasSpotName, IsSpot, Spot, port_bit_of, spot_cmp}
use Rattle.design_defs.specs.Drivers.{asked_at, begins_signal_in, passes_on_in}
use Rattle.design_defs.specs.Hierarchy.{IsInstance, Sources, Way, body_at, path, way_cmp}
use Rattle.design_defs.specs.Links.{IsLink, IsThrough}

-- a module without its lines: its name, its ports and its own line
abbrev pub head_of : Module → Module
head_of m = record { name = m.name; ports = m.ports; nets = []; assigns = []; insts = []; line = m.line }

-- all instances and all bits of a hierarchy, in order; the number of each is its place here
pub record Numbering (s : Sources) : Type 0 where
  pub ways : List Way
  pub spots : List Spot
  pub all_ways : AreAllRising way_cmp (IsInstance s) ways
  pub all_spots : AreAllRising spot_cmp (IsSpot s) spots

-- the number of the instance that the last one of a way is inside; the top is inside none
abbrev pub IsParentOf : List Way → Way → Option ℕ → Type 0
IsParentOf ways [] parent = parent ≡ None
IsParentOf ways (name ∷ outer) parent = (n : ℕ) × (parent ≡ Some n) × (slice_get ways n ≡ Some outer)

-- an instance as the hierarchy has it
pub record IsInstanceAt (s : Sources) (ways : List Way) (way : Way) (i : Instance) : Type 0 where
  pub path_there : i.path ≡ path way
  pub parent_there : IsParentOf ways way i.parent
  pub body_there : body_at s way ≡ Some i.body

-- some link feeds a bit
abbrev pub IsLinked : Sources → Spot → Option Spot → Type 0
IsLinked s x source = (way : Way) × (number : ℕ) × (line : ℕ) × IsLink s way number line x source

-- the cells, modules and models alone, without instances and bits
abbrev pub parts_of : Sources → Design
parts_of s = record { cells = s.cells; modules = s.modules; models = s.models; insts = []; bits = [] }

-- whether a signal begins at a port bit of the instance at the way
abbrev pub begins_signal_at : Sources → Way → PortBit → Bool
begins_signal_at s way p = asked_at begins_signal_in (parts_of s) p (body_at s way)

-- whether a port bit of the instance at the way is an output of an isolation cell or level shifter
abbrev pub passes_on_at : Sources → Way → PortBit → Bool
passes_on_at s way p = asked_at passes_on_in (parts_of s) p (body_at s way)

-- no signal begins at the bit, and it is no output of an isolation cell or level shifter
pub record IsPlainBit (s : Sources) (x : Spot) (b : Bit) : Type 0 where
  pub no_signal : (p : PortBit) → b.port ≡ Some p → begins_signal_at s x.way p ≡ false
  pub not_passing : (p : PortBit) → b.port ≡ Some p → passes_on_at s x.way p ≡ false

-- What feeds a bit: where a signal begins, the port bit itself; at the output of an isolation cell or level shifter, the
-- bit of its through pin; else the bit or the constant at the other end of the link to it, and nothing where there is none.
pub data IsFeederOf (s : Sources) (spots : List Spot) (x : Spot) (b : Bit) : Type 0 where
  driver : (p : PortBit) → b.port ≡ Some p → begins_signal_at s x.way p ≡ true → b.feeder ≡ Driver p → IsFeederOf s spots x b
  through : (p : PortBit) (source : Spot) (n : ℕ) → b.port ≡ Some p → passes_on_at s x.way p ≡ true → IsThrough s x source
      → slice_get spots n ≡ Some source → b.feeder ≡ Through p.inst n → IsFeederOf s spots x b
  bit : (source : Spot) (n : ℕ) → IsPlainBit s x b → IsLinked s x (Some source) → slice_get spots n ≡ Some source → b.feeder ≡ BitFeeder n
      → IsFeederOf s spots x b
  constant : IsPlainBit s x b → IsLinked s x None → b.feeder ≡ Constant → IsFeederOf s spots x b
  nothing : IsPlainBit s x b → ((source : Option Spot) → IsLinked s x source → ⊥) → b.feeder ≡ Nothing → IsFeederOf s spots x b

-- a bit as the hierarchy has it
pub record IsBitAt (s : Sources) (ways : List Way) (spots : List Spot) (x : Spot) (b : Bit) : Type 0 where
  pub name_there : HasSpotName s x b.name
  pub owner_there : slice_get ways b.owner ≡ Some x.way
  pub port_there : b.port ≡ port_bit_of s x b.owner
  pub fed_so : IsFeederOf s spots x b

-- the design has the cells, the models and the heads of the modules, all instances, and all bits with what feeds them
pub record IsMadeFrom (s : Sources) (d : Design) : Type 0 where
  pub same_cells : d.cells ≡ s.cells
  pub heads : d.modules ≡ map head_of s.modules
  pub same_models : d.models ≡ s.models
  pub numbering : Numbering s
  pub instances : AllZip (IsInstanceAt s numbering.ways) numbering.ways d.insts
  pub all_bits : AllZip (IsBitAt s numbering.ways numbering.spots) numbering.spots d.bits
