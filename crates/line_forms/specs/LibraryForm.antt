-- The form of a library, and how its parts are spelled.
use Rattle.std.specs.Prelude.{ℕ, List, [], ◌∷◌, codes, Option, Some, None}
use Rattle.std.specs.List.{concat, flat_map, AllByRecursion}
use Rattle.line_forms.specs.Names.{IsId}
use Rattle.line_forms.specs.Lines.{line, dir_text}
use Rattle.line_forms.specs.declared.library_lines.Role.{Role}
use Rattle.line_forms.specs.declared.library_lines.Role.TheVariants.{IsolationData, IsolationEnable, ShifterData, ShifterEnable}
use Rattle.line_forms.specs.declared.library_lines.CellKind.{CellKind}
use Rattle.line_forms.specs.declared.library_lines.CellKind.TheVariants.{Plain, Isolation, Shifter}
use Rattle.line_forms.specs.declared.library_lines.PinLine.{PinLine}
use Rattle.line_forms.specs.declared.library_lines.CellLines.{CellLines}
use Rattle.line_forms.specs.declared.library_lines.Library.{Library}

abbrev pub role_text : Option Role → List ℕ
role_text None = []
role_text (Some IsolationData) = codes "isolation_cell_data_pin : true; "
role_text (Some IsolationEnable) = codes "isolation_cell_enable_pin : true; "
role_text (Some ShifterData) = codes "level_shifter_data_pin : true; "
role_text (Some ShifterEnable) = codes "level_shifter_enable_pin : true; "

abbrev pub pin_text : PinLine → List ℕ
pin_text pin = line (codes "pin(" ∷ pin.name ∷ codes ") { direction : " ∷ dir_text pin.dir ∷ codes "; " ∷ role_text pin.role ∷ codes "}" ∷ [])

abbrev pub kind_text : CellKind → List ℕ
kind_text Plain = []
kind_text Isolation = line (codes "is_isolation_cell : true;" ∷ [])
kind_text Shifter = line (codes "is_level_shifter : true;" ∷ [])

abbrev pub cell_text : CellLines → List ℕ
cell_text cell = concat (line (codes "cell(" ∷ cell.name ∷ codes ") {" ∷ []) ∷ kind_text cell.kind ∷ flat_map pin_text cell.pins ∷ line (codes "}" ∷ []) ∷ [])

abbrev pub library_text : Library → List ℕ
library_text library = concat (line (codes "library(" ∷ library.name ∷ codes ") {" ∷ []) ∷ flat_map cell_text library.cells ∷ line (codes "}" ∷ []) ∷ [])

abbrev pub IsPin : PinLine → Type 0
IsPin pin = IsId pin.name

pub record IsCell (cell : CellLines) : Type 0 where
  pub name : IsId cell.name
  pub pins : AllByRecursion IsPin cell.pins

-- the names of a library are names
pub record IsLibrary (library : Library) : Type 0 where
  pub name : IsId library.name
  pub cells : AllByRecursion IsCell library.cells
