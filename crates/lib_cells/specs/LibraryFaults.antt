-- Which text is read as which cells, and the fault of one that isn't.
use Rattle.std.specs.Prelude.{◌≡◌, ℕ, IsTrue, List, map, codes}
use Rattle.pw_defs.specs.declared.cells.Cells.{Cells}
use Rattle.pw_defs.specs.declared.faults.At.{At}
use Rattle.pw_defs.specs.declared.faults.LibFault.{LibFault}
use Rattle.pw_defs.specs.declared.faults.LibFault.TheVariants.{L1, L2, L3, Memory}
use Rattle.text_defs.specs.Grammar.{Reads, IsPhrase}
use Rattle.text_defs.specs.FirstFault.{IsFirstFault}
use Rattle.text_defs.specs.FirstPlace.{IsFirstPlace, HasNoPlace, firsts}
use Rattle.text_defs.specs.Tokens.{Token, line_left}
use Rattle.lib_cells.specs.LibraryWords.{LibraryClass, library_tokens}
use Rattle.lib_cells.specs.Groups.{CellGroup, library_group}
use Rattle.lib_cells.specs.CellsMeant.{cell_of, is_odd}
use Rattle.lib_cells.specs.Joins.{IsGivenOtherwise, same_cell_name}

-- the groups of a text's cells
abbrev pub HasGroups : List ℕ → List CellGroup → Type 0
HasGroups text groups = Reads library_group (library_tokens text) groups

-- the group of a cell that a library cannot have
abbrev pub IsOddGroup : List CellGroup → CellGroup → List CellGroup → Type 0
IsOddGroup before group behind = IsTrue (is_odd (cell_of group))

-- the group of a cell that a group before it gives otherwise
abbrev pub IsOtherGroup : List CellGroup → CellGroup → List CellGroup → Type 0
IsOtherGroup before group behind = IsGivenOtherwise (map cell_of before) (cell_of group) (map cell_of behind)

-- The text is a library, whose cells are these: each at the place where it first comes. None is odd, and none is given otherwise.
pub record ReadsAsCells (text : List ℕ) (cells : Cells) : Type 0 where
  pub groups : List CellGroup
  pub reads : HasGroups text groups
  pub straight : HasNoPlace IsOddGroup groups
  pub alike : HasNoPlace IsOtherGroup groups
  pub value : cells ≡ record { cells = firsts same_cell_name (map cell_of groups) }

-- the line of a group's word `cell`, and the cell's name
abbrev pub at_group : CellGroup → At
at_group group = record { line = group.line; name = group.name }

-- where the text cannot go on to a library
pub record IsCutShort (text : List ℕ) (at : At) : Type 0 where
  pub left : List (Token LibraryClass)
  pub fault : IsFirstFault (IsPhrase library_group) (library_tokens text) left
  pub place : at ≡ record { line = line_left text left; name = codes "-" }

-- the first group of an odd cell
pub record HasOddCell (text : List ℕ) (at : At) : Type 0 where
  pub groups : List CellGroup
  pub reads : HasGroups text groups
  pub group : CellGroup
  pub first : IsFirstPlace IsOddGroup groups group
  pub place : at ≡ at_group group

-- the first group of a cell that is given otherwise, where no cell is odd
pub record HasOtherCell (text : List ℕ) (at : At) : Type 0 where
  pub groups : List CellGroup
  pub reads : HasGroups text groups
  pub straight : HasNoPlace IsOddGroup groups
  pub group : CellGroup
  pub first : IsFirstPlace IsOtherGroup groups group
  pub place : at ≡ at_group group

-- The fault of a text: first that it is no library, then an odd cell, then a cell that is given otherwise.
abbrev pub HasLibraryFault : List ℕ → LibFault → Type 0
HasLibraryFault text (L1 at) = IsCutShort text at
HasLibraryFault text (L2 at) = HasOtherCell text at
HasLibraryFault text (L3 at) = HasOddCell text at
HasLibraryFault text Memory = ⊥
