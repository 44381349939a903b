-- All ports and pins in order: by what they are of, then by name, then by number.
use Rattle.std.specs.Prelude.{◌≡◌, ℕ, List, [], Option, Some, None, option_and_then, slice_get}
use Rattle.std.specs.Ordering.{nat_cmp, on, then_cmp}
use Rattle.std.specs.declared.cmp.Ordering.{Ordering}
use Rattle.pw_defs.specs.declared.cells.Cells.{Cells}
use Rattle.pw_defs.specs.declared.design.Body.{Body}
use Rattle.pw_defs.specs.declared.design.Body.TheVariants.{Module as ModuleBody, Cell as CellBody, Model as ModelBody}
use Rattle.pw_defs.specs.declared.model.Model.{Model}
use Rattle.pw_defs.specs.declared.netlist.Module.{Module}
use Rattle.pw_defs.specs.declared.netlist.Port.{Port}
use Rattle.list_defs.specs.Orders.{AreAllRising, name_cmp}
use Rattle.design_defs.specs.Ports.{ports_among}
use Rattle.port_order.specs.declared.keys.PortNumber.{PortNumber}

-- the port of this number
abbrev pub port_in : List Module → Cells → List Model → PortNumber → Option Port
port_in modules cells models n = option_and_then (λ ports. slice_get ports n.port) (ports_among modules cells models n.body)

-- there is a port of this number
abbrev pub IsPort : List Module → Cells → List Model → PortNumber → Type 0
IsPort modules cells models n = (p : Port) × (port_in modules cells models n ≡ Some p)

abbrev pub name_of : Option Port → List ℕ
name_of None = []
name_of (Some p) = p.name

-- what instances are instances of, by kind and number
abbrev pub body_key : Body → ℕ × ℕ
body_key (ModuleBody m) = (0, m)
body_key (CellBody c) = (1, c)
body_key (ModelBody m) = (2, m)

abbrev pub body_cmp : Body → Body → Ordering
body_cmp = on body_key (then_cmp (on (λ (k : ℕ × ℕ). k.0) nat_cmp) (on (λ (k : ℕ × ℕ). k.1) nat_cmp))

-- a port by what it is of and by its name
abbrev pub key_of : List Module → Cells → List Model → PortNumber → Body × List ℕ
key_of modules cells models n = (n.body, name_of (port_in modules cells models n))

abbrev pub key_cmp : Body × List ℕ → Body × List ℕ → Ordering
key_cmp = then_cmp (on (λ (k : Body × List ℕ). k.0) body_cmp) (on (λ (k : Body × List ℕ). k.1) name_cmp)

-- ports of one name go by their numbers
abbrev pub port_cmp : List Module → Cells → List Model → PortNumber → PortNumber → Ordering
port_cmp modules cells models = then_cmp (on (key_of modules cells models) key_cmp) (on (λ (n : PortNumber). n.port) nat_cmp)

-- the numbers are those of all ports, each once, in order
abbrev pub IsPortOrder : List Module → Cells → List Model → List PortNumber → Type 0
IsPortOrder modules cells models numbers = AreAllRising (port_cmp modules cells models) (IsPort modules cells models) numbers
