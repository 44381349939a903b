-- What is answered of a library and a netlist of the first form.
use Rattle.std.specs.Prelude.{◌≡◌, ℕ, ◌≤◌, true, List, Some, map, length}
use Rattle.pw_defs.specs.declared.design.Design.{Design}
use Rattle.pw_defs.specs.declared.design.Bit.{Bit}
use Rattle.form_design.specs.declared.hierarchy.Held.{Held}
use Rattle.line_forms.specs.declared.library_lines.CellLines.{CellLines}
use Rattle.line_forms.specs.declared.netlist_lines.ModuleLines.{ModuleLines}
use Rattle.list_defs.specs.Members.{same_name, place_of}
use Rattle.design_defs.specs.Walks.{WalksEnd}
use Rattle.form_design.specs.Names.{Table, table_of}
use Rattle.form_design.specs.Hierarchy.{lines_at, helds, bits}
use Rattle.form_design.specs.Fits.{top_fits_by, design_fits}
use Rattle.form_design.specs.Designs.{design_over}

-- The instances at and below a top that is of the form, and their bits.
pub record IsHierarchy (t : Table) (cells : List CellLines) (modules : List ModuleLines) (top : ℕ) (hs : List Held) (bs : List Bit) : Type 0 where
  pub fits : top_fits_by t cells modules top ≡ true
  pub held : hs ≡ helds t modules top
  pub linked : bs ≡ bits t (helds t modules top)
  pub few : length hs ≤ 1000000

-- The design over a top, with the names of the instances in the top. Its walks end.
pub record IsDesignOver (cells : List CellLines) (modules : List ModuleLines) (top : ℕ) (d : Design) (instances : List (List ℕ)) : Type 0 where
  pub design : d ≡ design_over cells modules top
  pub insts : instances ≡ map (λ i. i.name) (lines_at modules top)
  pub walks : WalksEnd d.bits
  pub few : length d.insts ≤ 1000000

-- A library and a netlist are of the first form with this top's name, and this is their design.
pub record IsDesignOf (cells : List CellLines) (modules : List ModuleLines) (name : List ℕ) (d : Design) (instances : List (List ℕ)) : Type 0 where
  pub fits : design_fits cells modules name ≡ true
  pub top : ℕ
  pub named : place_of (same_name name) (table_of cells modules).modules ≡ Some top
  pub over : IsDesignOver cells modules top d instances
