-- How the depth is found: whether each module holds plain cells alone, once for all of its instances.
use Rattle.std.specs.Prelude.{ℕ, Bool, true, false, List, Some, map, unwrap_or, slice_get}
use Rattle.std.specs.List.{list_all}
use Rattle.pw_defs.specs.declared.design.Body.{Body}
use Rattle.pw_defs.specs.declared.design.Body.TheVariants.{Module, Cell, Model}
use Rattle.line_forms.specs.declared.library_lines.CellLines.{CellLines}
use Rattle.line_forms.specs.declared.netlist_lines.InstLine.{InstLine}
use Rattle.line_forms.specs.declared.netlist_lines.ModuleLines.{ModuleLines}
use Rattle.form_design.specs.Names.{Table, body_named}
use Rattle.form_design.specs.Hierarchy.{lines_in}
use Rattle.form_design.specs.Fits.{passes, is_plain_cell, holds_plain_cells}

-- whether each module holds plain cells alone
abbrev pub plain_holders : Table → List CellLines → List ModuleLines → List Bool
plain_holders t cells modules = map (λ (m : ModuleLines). holds_plain_cells t cells (lines_in (Some m))) modules

-- whether a body is a plain cell, or a module that holds plain cells alone
abbrev pub is_shallow_by : List CellLines → List Bool → Body → Bool
is_shallow_by cells plain (Cell c) = is_plain_cell cells (Cell c)
is_shallow_by cells plain (Module m) = unwrap_or (slice_get plain m) true
is_shallow_by cells plain (Model m) = false

abbrev pub are_shallow_by : Table → List CellLines → List Bool → List InstLine → Bool
are_shallow_by t cells plain lines = list_all (λ (i : InstLine). passes (is_shallow_by cells plain) (body_named t i.kind)) lines
