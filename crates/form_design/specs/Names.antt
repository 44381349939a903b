-- The names that cells and modules declare, and what the type of an instance stands for.
use Rattle.std.specs.Prelude.{ℕ, List, [], ◌++◌, Option, Some, None, map, option_map, slice_index_or}
use Rattle.std.specs.List.{filter_map}
use Rattle.pw_defs.specs.declared.cells.Dir.{Dir}
use Rattle.pw_defs.specs.declared.design.Body.{Body}
use Rattle.pw_defs.specs.declared.design.Body.TheVariants.{Module, Cell, Model}
use Rattle.line_forms.specs.declared.library_lines.CellLines.{CellLines}
use Rattle.line_forms.specs.declared.netlist_lines.InstLine.{InstLine}
use Rattle.line_forms.specs.declared.netlist_lines.ItemLine.{ItemLine}
use Rattle.line_forms.specs.declared.netlist_lines.ItemLine.TheVariants.{Wire, Inst}
use Rattle.line_forms.specs.declared.netlist_lines.ModuleLines.{ModuleLines}
use Rattle.list_defs.specs.Members.{same_name, place_of}

abbrev pub wire_of : ItemLine → Option (List ℕ)
wire_of (Wire name) = Some name
wire_of (Inst i) = None

abbrev pub inst_of : ItemLine → Option InstLine
inst_of (Wire name) = None
inst_of (Inst i) = Some i

-- the instances of a module, in order
abbrev pub insts : ModuleLines → List InstLine
insts m = filter_map inst_of m.items

abbrev pub port_names : ModuleLines → List (List ℕ)
port_names m = map (λ p. p.name) m.ports

abbrev pub port_dirs : ModuleLines → List Dir
port_dirs m = map (λ p. p.dir) m.ports

-- the nets of a module, each of one bit: its ports, then its wires
abbrev pub nets : ModuleLines → List (List ℕ)
nets m = port_names m ++ filter_map wire_of m.items

-- the names of the instances in a module
abbrev pub inst_names : ModuleLines → List (List ℕ)
inst_names m = map (λ i. i.name) (insts m)

-- all names of a module
abbrev pub names : ModuleLines → List (List ℕ)
names m = nets m ++ inst_names m

abbrev pub pin_names : CellLines → List (List ℕ)
pin_names c = map (λ p. p.name) c.pins

abbrev pub pin_dirs : CellLines → List Dir
pin_dirs c = map (λ p. p.dir) c.pins

-- The names of a job's files: those of its cells and modules, and for each of these its ports or pins with their
-- directions, and its nets.
pub record Table : Type 0 where
  pub cells : List (List ℕ)
  pub modules : List (List ℕ)
  pub pins : List (List (List ℕ))
  pub ports : List (List (List ℕ))
  pub nets : List (List (List ℕ))
  pub pin_dirs : List (List Dir)
  pub port_dirs : List (List Dir)

abbrev pub table_of : List CellLines → List ModuleLines → Table
table_of cells modules = record {
  cells = map (λ c. c.name) cells;
  modules = map (λ m. m.name) modules;
  pins = map pin_names cells;
  ports = map port_names modules;
  nets = map nets modules;
  pin_dirs = map pin_dirs cells;
  port_dirs = map port_dirs modules;
}

-- the first that is there
abbrev pub either : {X : Type 0} → Option X → Option X → Option X
either None other = other
either (Some x) other = Some x

-- what a type stands for: the cell of that name, or else the module
abbrev pub body_named : Table → List ℕ → Option Body
body_named t kind =
    either (option_map Cell (place_of (same_name kind) t.cells)) (option_map Module (place_of (same_name kind) t.modules))

-- the list at a place, which is empty past the end
abbrev pub list_at : {X : Type 0} → List (List X) → ℕ → List X
list_at lists n = slice_index_or lists n []

-- the names of the ports or pins, by what they are ports of
abbrev pub ports_of : Table → Body → List (List ℕ)
ports_of t (Cell c) = list_at t.pins c
ports_of t (Module m) = list_at t.ports m
ports_of t (Model m) = []

-- their directions
abbrev pub dirs_of : Table → Body → List Dir
dirs_of t (Cell c) = list_at t.pin_dirs c
dirs_of t (Module m) = list_at t.port_dirs m
dirs_of t (Model m) = []

-- the names of the bits of an instance: the pins of a cell, or the nets of a module
abbrev pub bits_of : Table → Body → List (List ℕ)
bits_of t (Cell c) = list_at t.pins c
bits_of t (Module m) = list_at t.nets m
bits_of t (Model m) = []
