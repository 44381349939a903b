-- The numbers of the ports of several bodies, one body behind the other.
use Rattle.std.specs.Prelude.{ℕ, List, Option, Some, None, map, length}
use Rattle.std.specs.List.{flat_map, range_with_len}
use Rattle.pw_defs.specs.declared.cells.Cells.{Cells}
use Rattle.pw_defs.specs.declared.design.Body.{Body}
use Rattle.pw_defs.specs.declared.model.Model.{Model}
use Rattle.pw_defs.specs.declared.netlist.Module.{Module}
use Rattle.pw_defs.specs.declared.netlist.Port.{Port}
use Rattle.design_defs.specs.Ports.{ports_among}
use Rattle.port_order.specs.declared.keys.PortNumber.{PortNumber}

-- how many ports there are
abbrev pub count_of : Option (List Port) → ℕ
count_of None = 0
count_of (Some ports) = length ports

-- this many numbers of ports of one body
abbrev pub numbered : Body → ℕ → List PortNumber
numbered body count = map (λ (n : ℕ). record { body = body; port = n }) (range_with_len 0 count)

-- the ports of one body
abbrev pub numbers_of : List Module → Cells → List Model → Body → List PortNumber
numbers_of modules cells models body = numbered body (count_of (ports_among modules cells models body))

-- the ports of the first so many bodies of one kind
abbrev pub all_numbers : List Module → Cells → List Model → (ℕ → Body) → ℕ → List PortNumber
all_numbers modules cells models make count = flat_map (numbers_of modules cells models) (map make (range_with_len 0 count))
