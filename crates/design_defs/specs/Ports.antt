-- The ports and pins of instances, and at which of them a walk begins.
use Rattle.std.specs.Prelude.{◌≡◌, ℕ, ◌<◌, ◌==◌, Bool, true, false, not, ◌&&◌, ◌||◌, List, Option, Some, None, map, option_map, option_and_then, slice_get}
use Rattle.pw_defs.specs.declared.cells.Dir.{Dir}
use Rattle.pw_defs.specs.declared.cells.Dir.TheVariants.{Input, Output}
use Rattle.pw_defs.specs.declared.cells.Cell.{Cell}
use Rattle.pw_defs.specs.declared.cells.Cells.{Cells}
use Rattle.pw_defs.specs.declared.cells.Pin.{Pin}
use Rattle.pw_defs.specs.declared.design.Body.{Body}
use Rattle.pw_defs.specs.declared.design.Body.TheVariants.{Module, Cell as CellBody, Model}
use Rattle.pw_defs.specs.declared.design.Design.{Design}
use Rattle.pw_defs.specs.declared.design.PortBit.{PortBit}
use Rattle.pw_defs.specs.declared.model.Model.{Model as ModelOf}
use Rattle.pw_defs.specs.declared.netlist.Module.{Module as ModuleOf}
use Rattle.pw_defs.specs.declared.netlist.Port.{Port}
use Rattle.design_defs.specs.Ranges.{width}

abbrev pub is_input : Option Dir → Bool
is_input None = false
is_input (Some Input) = true
is_input (Some Output) = false

abbrev pub is_output : Option Dir → Bool
is_output None = false
is_output (Some Input) = false
is_output (Some Output) = true

-- the direction of a port or pin, by what it is a port of
abbrev pub dir_in : Design → Body → ℕ → Option Dir
dir_in d (Module m) port = option_and_then (λ x. option_map (λ p. p.dir) (slice_get x.ports port)) (slice_get d.modules m)
dir_in d (CellBody c) port = option_and_then (λ x. option_map (λ p. p.dir) (slice_get x.pins port)) (slice_get d.cells.cells c)
dir_in d (Model m) port = option_and_then (λ x. option_map (λ p. p.dir) (slice_get x.ports port)) (slice_get d.models m)

-- whether a pin is this one
abbrev pub is_pin : ℕ → Option ℕ → Bool
is_pin port None = false
is_pin port (Some through) = through == port

-- whether it is the through pin of an isolation cell or level shifter
abbrev pub is_through : ℕ → Option Cell → Bool
is_through port None = false
is_through port (Some c) = (c.iso || c.shift) && is_pin port c.through

-- A receiver is an input pin of a leaf cell that is no through pin, or an output bit of the top.
abbrev pub receives_in : Design → Body → PortBit → Bool
receives_in d (Module m) p = p.inst == 0 && is_output (dir_in d (Module m) p.port)
receives_in d (CellBody c) p = is_input (dir_in d (CellBody c) p.port) && not (is_through p.port (slice_get d.cells.cells c))
receives_in d (Model m) p = false

-- A walk begins at a receiver, or at an input bit of an instance that a model stands for.
abbrev pub begins_in : Design → Body → PortBit → Bool
begins_in d (Module m) p = receives_in d (Module m) p
begins_in d (CellBody c) p = receives_in d (CellBody c) p
begins_in d (Model m) p = is_input (dir_in d (Model m) p.port)

abbrev pub receives_at : Design → PortBit → Option Body → Bool
receives_at d p None = false
receives_at d p (Some body) = receives_in d body p

abbrev pub begins_at : Design → PortBit → Option Body → Bool
begins_at d p None = false
begins_at d p (Some body) = begins_in d body p

-- what an instance is an instance of
abbrev pub body_of : Design → ℕ → Option Body
body_of d inst = option_map (λ i. i.body) (slice_get d.insts inst)

-- whether a port bit is a receiver
abbrev pub receives : Design → PortBit → Bool
receives d p = receives_at d p (body_of d p.inst)

-- whether a walk begins at a port bit
abbrev pub begins : Design → PortBit → Bool
begins d p = begins_at d p (body_of d p.inst)

-- a pin as a port of one bit
abbrev pub port_of_pin : Pin → Port
port_of_pin pin = record { name = pin.name; dir = pin.dir; range = None }

-- the ports of a module or a model, or the pins of a cell
abbrev pub ports_among : List ModuleOf → Cells → List ModelOf → Body → Option (List Port)
ports_among modules cells models (Module m) = option_map (λ x. x.ports) (slice_get modules m)
ports_among modules cells models (CellBody c) = option_map (λ x. map port_of_pin x.pins) (slice_get cells.cells c)
ports_among modules cells models (Model m) = option_map (λ x. x.ports) (slice_get models m)

-- the ports of an instance
abbrev pub ports_of : Design → ℕ → Option (List Port)
ports_of d inst = option_and_then (ports_among d.modules d.cells d.models) (body_of d inst)

-- a port of an instance, by its number
abbrev pub port_at : Design → ℕ → ℕ → Option Port
port_at d inst port = option_and_then (λ ports. slice_get ports port) (ports_of d inst)

-- a port bit that there is: of a port of the instance, at a place within its width
pub record IsPortBit (d : Design) (p : PortBit) : Type 0 where
  pub of_port : Port
  pub is_port : port_at d p.inst p.port ≡ Some of_port
  pub within : p.place < width of_port.range
