-- The bits of a hierarchy: those of the nets of its modules, and those of the ports and pins of its instances.
use Rattle.std.specs.Prelude.{◌≡◌, ℕ, ◌<◌, List, Option, Some, option_map, option_and_then}
use Rattle.std.specs.List.{find}
use Rattle.std.specs.Ordering.{nat_cmp, on, then_cmp}
use Rattle.std.specs.declared.cmp.Ordering.{Ordering}
use Rattle.pw_defs.specs.declared.design.Body.{Body}
use Rattle.pw_defs.specs.declared.design.Body.TheVariants.{Module as ModuleBody, Cell as CellBody, Model as ModelBody}
use Rattle.pw_defs.specs.declared.design.PortBit.{PortBit}
use Rattle.pw_defs.specs.declared.netlist.Port.{Port}
use Rattle.list_defs.specs.Members.{same_name}
use Rattle.list_defs.specs.Orders.{name_cmp}
use Rattle.design_defs.specs.Hierarchy.{Sources, Way, body_at, module_at, number_named, path, ports_in, way_cmp}
use Rattle.design_defs.specs.Names.{joined}
use Rattle.design_defs.specs.Places.{net_range}
use Rattle.design_defs.specs.Ranges.{bit_name, width}

-- where a bit stands: the instance that owns it, the net, port or pin, and the place from the left
pub record Spot : Type 0 where
  pub way : Way
  pub net : List ℕ
  pub place : ℕ

-- bits go by the path of their instance, then by the name of the net, then by place
abbrev pub spot_cmp : Spot → Spot → Ordering
spot_cmp = then_cmp (on (λ (x : Spot). x.way) way_cmp) (then_cmp (on (λ (x : Spot). x.net) name_cmp) (on (λ (x : Spot). x.place) nat_cmp))

-- the port or pin of a name
abbrev pub port_named : List ℕ → List Port → Option Port
port_named name ports = find (λ (p : Port). same_name name p.name) ports

-- The range of what a body owns under a name: a module owns its nets, declared and implicit, with its ports among them;
-- a cell its pins, and a model its ports.
abbrev pub range_in : Sources → Body → List ℕ → Option (Option (ℕ × ℕ))
range_in s (ModuleBody m) net = option_and_then (λ x. net_range x net) (module_at s m)
range_in s (CellBody c) net = option_map (λ (p : Port). p.range) (option_and_then (port_named net) (ports_in s (CellBody c)))
range_in s (ModelBody m) net = option_map (λ (p : Port). p.range) (option_and_then (port_named net) (ports_in s (ModelBody m)))

-- the range of the net of a bit
abbrev pub range_of : Sources → Spot → Option (Option (ℕ × ℕ))
range_of s x = option_and_then (λ body. range_in s body x.net) (body_at s x.way)

-- there is a bit here: the instance owns the net, and the place is within its width
abbrev pub IsSpot : Sources → Spot → Type 0
IsSpot s x = (range : Option (ℕ × ℕ)) × (range_of s x ≡ Some range) × (x.place < width range)

-- the name of a bit below the top
abbrev pub HasSpotName : Sources → Spot → List ℕ → Type 0
HasSpotName s x name = (range : Option (ℕ × ℕ)) × (range_of s x ≡ Some range) × (name ≡ joined (path x.way) (bit_name x.net range x.place))

-- the number of the port or pin that a bit belongs to
abbrev pub port_number : Sources → Spot → Option ℕ
port_number s x = option_and_then (number_named (λ (p : Port). p.name) x.net) (option_and_then (ports_in s) (body_at s x.way))

-- the port bit that a bit is, where its instance has this number
abbrev pub port_bit_of : Sources → Spot → ℕ → Option PortBit
port_bit_of s x inst = option_map (λ port. record { inst = inst; port = port; place = x.place }) (port_number s x)
