-- The modules that the words of a netlist mean.
use Rattle.std.specs.Prelude.{ℕ, Bool, false, List, [], ◌∷◌, Option, Some, None, option_map, if◌then◌else◌}
use Rattle.std.specs.List.{list_any, filter_map, flat_map}
use Rattle.list_defs.specs.Members.{same_name}
use Rattle.pw_defs.specs.declared.netlist.Port.{Port}
use Rattle.pw_defs.specs.declared.netlist.Net.{Net}
use Rattle.pw_defs.specs.declared.netlist.Assign.{Assign as Assignment}
use Rattle.pw_defs.specs.declared.netlist.Inst.{Inst}
use Rattle.pw_defs.specs.declared.netlist.Module.{Module}
use Rattle.text_defs.specs.Grammar.{next}
use Rattle.net_text.specs.NetlistGrammar.{Shape, Item, Directions, Wires, Assigns, Instance, ModuleWords}
use Rattle.net_text.specs.SecondDeclarations.{Declaration, HeaderPort, PortDirection, WireName, InstanceName, declarations}

-- the direction and range that a declaration gives to a port
abbrev pub shape_said : List ℕ → Declaration → Option Shape
shape_said name (HeaderPort n shape) = if same_name n.text name then shape else None
shape_said name (PortDirection n shape) = if same_name n.text name then Some shape else None
shape_said name (WireName n range) = None
shape_said name (InstanceName n) = None

-- the first direction and range that a module gives to a port
abbrev pub shape_of : List ℕ → List Declaration → Option Shape
shape_of name given = next (filter_map (shape_said name) given)

-- the ports, in the order of the header
abbrev pub port_in : List Declaration → Declaration → Option Port
port_in given (HeaderPort n shape) = option_map (λ (s : Shape). record { name = n.text; dir = s.dir; range = s.range }) (shape_of n.text given)
port_in given (PortDirection n shape) = None
port_in given (WireName n range) = None
port_in given (InstanceName n) = None

abbrev pub is_port_named : List ℕ → Declaration → Bool
is_port_named name (HeaderPort n shape) = same_name n.text name
is_port_named name (PortDirection n shape) = false
is_port_named name (WireName n range) = false
is_port_named name (InstanceName n) = false

-- the wires that are declared, other than those that repeat a port
abbrev pub net_in : List Declaration → Declaration → Option Net
net_in given (HeaderPort n shape) = None
net_in given (PortDirection n shape) = None
net_in given (WireName n range) = if list_any (is_port_named n.text) given then None else Some (record { name = n.text; range = range })
net_in given (InstanceName n) = None

abbrev pub assigns_in : Item → List Assignment
assigns_in (Directions shape names) = []
assigns_in (Wires range names) = []
assigns_in (Assigns assigns) = assigns
assigns_in (Instance words) = []

-- an instance stands on the line of its type's word
abbrev pub insts_in : Item → List Inst
insts_in (Directions shape names) = []
insts_in (Wires range names) = []
insts_in (Assigns assigns) = []
insts_in (Instance words) = record { kind = words.kind.text; name = words.name.text; conns = words.conns; line = words.kind.line } ∷ []

-- the module that the words mean
unfoldable pub module_of : ModuleWords → Module
module_of m =
    record {
      name = m.name;
      ports = filter_map (port_in (declarations m)) (declarations m);
      nets = filter_map (net_in (declarations m)) (declarations m);
      assigns = flat_map assigns_in m.items;
      insts = flat_map insts_in m.items;
      line = m.line;
    }
