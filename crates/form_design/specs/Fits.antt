-- Which libraries and netlists are of the first form, beside the form of their lines.
use Rattle.std.specs.Prelude.{ℕ, ◌==◌, Bool, true, false, not, ◌&&◌, ◌||◌, nat_le, List, Option, Some, None, map, length, slice_get, is_some, sum_by, count_by}
use Rattle.std.specs.List.{list_all, enumerate_from}
use Rattle.pw_defs.specs.declared.design.Bit.{Bit}
use Rattle.pw_defs.specs.declared.design.Body.{Body}
use Rattle.pw_defs.specs.declared.design.Body.TheVariants.{Module, Cell, Model}
use Rattle.pw_defs.specs.declared.design.Feeder.{Feeder}
use Rattle.pw_defs.specs.declared.design.Feeder.TheVariants.{Bit as BitFeeder, Through, Driver, Constant, Nothing}
use Rattle.line_forms.specs.declared.library_lines.CellKind.{CellKind}
use Rattle.line_forms.specs.declared.library_lines.CellKind.TheVariants.{Plain, Isolation, Shifter}
use Rattle.line_forms.specs.declared.library_lines.CellLines.{CellLines}
use Rattle.line_forms.specs.declared.library_lines.PinLine.{PinLine}
use Rattle.line_forms.specs.declared.library_lines.Role.{Role}
use Rattle.line_forms.specs.declared.library_lines.Role.TheVariants.{IsolationData, IsolationEnable, ShifterData, ShifterEnable}
use Rattle.line_forms.specs.declared.netlist_lines.ConnWords.{ConnWords}
use Rattle.line_forms.specs.declared.netlist_lines.InstLine.{InstLine}
use Rattle.line_forms.specs.declared.netlist_lines.ModuleLines.{ModuleLines}
use Rattle.list_defs.specs.Members.{same_name, place_of, all_differ}
use Rattle.design_defs.specs.Ports.{is_output}
use Rattle.form_design.specs.declared.hierarchy.Held.{Held}
use Rattle.form_design.specs.Names.{Table, table_of, insts, names, body_named, list_at, ports_of}
use Rattle.form_design.specs.Hierarchy.{helds, lines_at, size, links, own_bits}

-- whether something that may not be there passes a test
abbrev pub passes : {X : Type 0} → (X → Bool) → Option X → Bool
passes test None = false
passes test (Some x) = test x

-- whether nothing is there, or it passes
abbrev pub passes_if_any : {X : Type 0} → (X → Bool) → Option X → Bool
passes_if_any test None = true
passes_if_any test (Some x) = test x

-- NAMES. Cells, the pins of a cell, modules, and the ports, wires and instances of a module have names of their own,
-- and no module has a cell's name.
abbrev pub is_apart : List (List ℕ) → List ℕ → Bool
is_apart names name = not (is_some (place_of (same_name name) names))

abbrev pub names_differ : List CellLines → List ModuleLines → Bool
names_differ cells modules =
    all_differ same_name (table_of cells modules).cells
    && list_all (all_differ same_name) (table_of cells modules).pins
    && all_differ same_name (table_of cells modules).modules
    && list_all (is_apart (table_of cells modules).cells) (table_of cells modules).modules
    && list_all (λ m. all_differ same_name (names m)) modules

-- ROLES. An isolation cell or level shifter has exactly one data pin and one output pin.
abbrev pub is_data : Role → Bool
is_data IsolationData = true
is_data IsolationEnable = false
is_data ShifterData = true
is_data ShifterEnable = false

abbrev pub is_plain : CellKind → Bool
is_plain Plain = true
is_plain Isolation = false
is_plain Shifter = false

abbrev pub is_data_pin : PinLine → Bool
is_data_pin p = passes is_data p.role

abbrev pub is_output_pin : PinLine → Bool
is_output_pin p = is_output (Some p.dir)

abbrev pub has_roles : CellLines → Bool
has_roles c = is_plain c.kind || (count_by is_data_pin c.pins == 1 && count_by is_output_pin c.pins == 1)

-- CONNECTIONS. Each instance is of a module or a cell of the files, and connects ports of it, each at most once, to
-- nets of its module or to nothing.
abbrev pub is_connected : Table → ℕ → Body → ConnWords → Bool
is_connected t m body c =
    is_some (place_of (same_name c.port) (ports_of t body)) && passes_if_any (λ net. is_some (place_of (same_name net) (list_at t.nets m))) c.net

abbrev pub fits_body : Table → ℕ → List ConnWords → Body → Bool
fits_body t m conns body = all_differ same_name (map (λ c. c.port) conns) && list_all (is_connected t m body) conns

abbrev pub is_placed : Table → ℕ → InstLine → Bool
is_placed t m i = passes (fits_body t m i.conns) (body_named t i.kind)

abbrev pub all_placed : Table → List ModuleLines → Bool
all_placed t modules = list_all (λ (e : ℕ × ModuleLines). list_all (is_placed t e.0) (insts e.1)) (enumerate_from 0 modules)

-- DEPTH. What the top holds is a plain cell, or a module that holds plain cells alone.
abbrev pub is_plain_cell : List CellLines → Body → Bool
is_plain_cell cells (Cell c) = passes (λ (x : CellLines). is_plain x.kind) (slice_get cells c)
is_plain_cell cells (Module m) = false
is_plain_cell cells (Model m) = false

abbrev pub holds_plain_cells : Table → List CellLines → List InstLine → Bool
holds_plain_cells t cells lines = list_all (λ (i : InstLine). passes (is_plain_cell cells) (body_named t i.kind)) lines

abbrev pub is_shallow : Table → List CellLines → List ModuleLines → Body → Bool
is_shallow t cells modules (Cell c) = is_plain_cell cells (Cell c)
is_shallow t cells modules (Module m) = holds_plain_cells t cells (lines_at modules m)
is_shallow t cells modules (Model m) = false

abbrev pub top_is_shallow : Table → List CellLines → List ModuleLines → ℕ → Bool
top_is_shallow t cells modules top = list_all (λ (i : InstLine). passes (is_shallow t cells modules) (body_named t i.kind)) (lines_at modules top)

-- SIZE. At most 1,000,000 instances and 8,000,000 bits.
abbrev pub has_size : Table → List Held → Bool
has_size t hs = nat_le (length hs) 1000000 && nat_le (sum_by (size t) hs) 8000000

-- FEEDERS. No bit has two: each is fed by one link at most, and a driver by none.
abbrev pub is_nothing : Feeder → Bool
is_nothing (BitFeeder n) = false
is_nothing (Through inst bit) = false
is_nothing (Driver p) = false
is_nothing Constant = false
is_nothing Nothing = true

-- whether there is such a bit, and nothing feeds it
abbrev pub is_free : Option Bit → Bool
is_free None = false
is_free (Some b) = is_nothing b.feeder

-- whether the links feed each of the bits once at most, and none that has a feeder already
abbrev pub feeds_once : List (ℕ × ℕ) → List Bit → Bool
feeds_once links bits = all_differ ◌==◌ (map (λ (l : ℕ × ℕ). l.0) links) && list_all (λ (l : ℕ × ℕ). is_free (slice_get bits l.0)) links

abbrev pub has_one_feeder : Table → List Held → Bool
has_one_feeder t hs = feeds_once (links t hs) (own_bits t hs)

abbrev pub hierarchy_fits : Table → List Held → Bool
hierarchy_fits t hs = has_size t hs && has_one_feeder t hs

abbrev pub top_fits_by : Table → List CellLines → List ModuleLines → ℕ → Bool
top_fits_by t cells modules top = top_is_shallow t cells modules top && hierarchy_fits t (helds t modules top)

abbrev pub top_fits : List CellLines → List ModuleLines → ℕ → Bool
top_fits cells modules top = top_fits_by (table_of cells modules) cells modules top

-- A library and a netlist with the name of a top are of the first form.
abbrev pub design_fits : List CellLines → List ModuleLines → List ℕ → Bool
design_fits cells modules top =
    names_differ cells modules && list_all has_roles cells && all_placed (table_of cells modules) modules
    && passes (top_fits cells modules) (place_of (same_name top) (table_of cells modules).modules)
