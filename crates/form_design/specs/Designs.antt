-- The design that a library and a netlist of the first form mean.
use Rattle.std.specs.Prelude.{ℕ, ◌==◌, ◌&&◌, Bool, true, false, ◌||◌, List, [], Option, Some, None, map, count_by, is_some, if◌then◌else◌}
use Rattle.pw_defs.specs.declared.cells.Cell.{Cell}
use Rattle.pw_defs.specs.declared.design.Design.{Design}
use Rattle.pw_defs.specs.declared.design.Bit.{Bit}
use Rattle.pw_defs.specs.declared.design.Instance.{Instance}
use Rattle.pw_defs.specs.declared.netlist.Module.{Module}
use Rattle.line_forms.specs.declared.library_lines.CellKind.{CellKind}
use Rattle.line_forms.specs.declared.library_lines.CellKind.TheVariants.{Plain, Isolation, Shifter}
use Rattle.line_forms.specs.declared.library_lines.CellLines.{CellLines}
use Rattle.line_forms.specs.declared.library_lines.PinLine.{PinLine}
use Rattle.line_forms.specs.declared.library_lines.Role.{Role}
use Rattle.line_forms.specs.declared.library_lines.Role.TheVariants.{IsolationData, IsolationEnable, ShifterData, ShifterEnable}
use Rattle.line_forms.specs.declared.netlist_lines.ModuleLines.{ModuleLines}
use Rattle.list_defs.specs.Members.{place_of}
use Rattle.design_defs.specs.Ports.{is_input}
use Rattle.form_design.specs.declared.hierarchy.Held.{Held}
use Rattle.form_design.specs.Names.{table_of}
use Rattle.form_design.specs.Hierarchy.{helds, bits}
use Rattle.form_design.specs.Fits.{passes, is_data_pin}

abbrev pub is_enable : Role → Bool
is_enable IsolationData = false
is_enable IsolationEnable = true
is_enable ShifterData = false
is_enable ShifterEnable = true

abbrev pub is_enable_pin : PinLine → Bool
is_enable_pin p = is_input (Some p.dir) && passes is_enable p.role

-- the place of the one data pin
abbrev pub only_data : List PinLine → Option ℕ
only_data pins = if count_by is_data_pin pins == 1 then place_of is_data_pin pins else None

-- the place of the first input that is an enable pin
abbrev pub first_enable : List PinLine → Option ℕ
first_enable pins = place_of is_enable_pin pins

abbrev pub is_isolation : CellKind → Bool
is_isolation Plain = false
is_isolation Isolation = true
is_isolation Shifter = false

abbrev pub is_shifter : CellKind → Bool
is_shifter Plain = false
is_shifter Isolation = false
is_shifter Shifter = true

-- a cell, with its roles; a level shifter with an enable pin is an isolation cell too
abbrev pub cell_of : CellLines → Cell
cell_of c = record {
  name = c.name;
  pins = map (λ p. record { name = p.name; dir = p.dir }) c.pins;
  iso = is_isolation c.kind || (is_shifter c.kind && is_some (first_enable c.pins));
  shift = is_shifter c.kind;
  through = only_data c.pins;
  enable = first_enable c.pins;
}

-- A module with its ports. What it holds stands in the design's instances and bits, and no line is kept in this form.
abbrev pub module_of : ModuleLines → Module
module_of m = record {
  name = m.name;
  ports = map (λ p. record { name = p.name; dir = p.dir; range = None }) m.ports;
  nets = [];
  assigns = [];
  insts = [];
  line = 0;
}

abbrev pub instance_of : Held → Instance
instance_of h = record { path = h.path; parent = h.parent; body = h.body }

-- the design of the instances and the bits
abbrev pub design_with : List CellLines → List ModuleLines → List Held → List Bit → Design
design_with cells modules hs bits = record {
  cells = record { cells = map cell_of cells };
  modules = map module_of modules;
  models = [];
  insts = map instance_of hs;
  bits = bits;
}

-- the design over a top
abbrev pub design_over : List CellLines → List ModuleLines → ℕ → Design
design_over cells modules top =
    let t = table_of cells modules in
    let hs = helds t modules top in
    design_with cells modules hs (bits t hs)
