-- Cells put together one after the other, each once.
use Rattle.std.specs.Prelude.{◌≡◌, ◌≢◌, ℕ, Bool, true, false, List, [], ◌∷◌, ◌++◌, map, Result, Ok, Err}
use Rattle.list_defs.specs.Members.{IsIn}
use Rattle.pw_defs.specs.declared.cells.Cell.{Cell}
use Rattle.pw_defs.specs.declared.cells.Cells.{Cells}
use Rattle.pw_defs.specs.declared.faults.LibFault.{LibFault}
use Rattle.pw_defs.specs.declared.faults.LibFault.TheVariants.{L1, L2, L3, Memory}
use Rattle.text_defs.specs.FirstPlace.{HasNoPlace, firsts}
use Rattle.lib_cells.specs.CellsMeant.{is_odd}
use Rattle.lib_cells.specs.Joins.{HasJoinFault, IsGivenOtherwise, JoinsTo, same_cell_name}
use Rattle.lib_cells.specs.LibraryFaults.{HasLibraryFault, ReadsAsCells}
use Rattle.lib_cells.specs.declared.libraries.PlacedCell.{PlacedCell}
use Rattle.cell_joins.specs.declared.unions.Standing.{Standing}
use Rattle.cell_joins.specs.declared.unions.Standing.TheVariants.{Alike, New, Otherwise}
use Rattle.cell_joins.specs.declared.unions.Union.{Union}

abbrev pub names_of : List Cell → List (List ℕ)
names_of cells = map (λ (c : Cell). c.name) cells

-- how a cell stands to cells of which no two have one name
abbrev pub StandsAs : List Cell → Cell → Standing → Type 0
StandsAs cells cell New = ¬ IsIn cell.name (names_of cells)
StandsAs cells cell Alike = IsIn cell cells
StandsAs cells cell Otherwise = IsGivenOtherwise cells cell []

-- how a cell stands to one of its name
abbrev pub StandsTo : Cell → Cell → Standing → Type 0
StandsTo known cell New = ⊥
StandsTo known cell Alike = known ≡ cell
StandsTo known cell Otherwise = known ≢ cell

-- the cells of a list, each at the place where it first came, where none is given otherwise
pub record IsUnionOf (before : List Cell) (u : Union) : Type 0 where
  pub alike : HasNoPlace IsGivenOtherwise before
  pub cells : u.cells ≡ firsts same_cell_name before
  pub names : u.names ≡ names_of u.cells

-- a further cell of a list is put in, or is given otherwise
abbrev pub Takes : Union → Cell → Bool → Union → Type 0
Takes old cell true new = (before : List Cell) → IsUnionOf before old → IsUnionOf (before ++ cell ∷ []) new
Takes old cell false new = (before : List Cell) → IsUnionOf before old → IsGivenOtherwise before cell []

-- x is the first of things whose cell is given otherwise, behind cells that were there before
pub record IsFirstOther {X : Type 0} (cell_in : X → Cell) (before : List Cell) (xs : List X) (x : X) : Type 0 where
  pub front : List X
  pub rest : List X
  pub split : xs ≡ front ++ x ∷ rest
  pub alike : HasNoPlace IsGivenOtherwise (before ++ map cell_in front)
  pub other : IsGivenOtherwise (before ++ map cell_in front) (cell_in x) []

-- the fault of a cell that is given otherwise, at a line, where there is memory to say so
abbrev pub IsOtherwiseAt : ℕ → Cell → LibFault → Type 0
IsOtherwiseAt line cell (L1 at) = ⊥
IsOtherwiseAt line cell (L2 at) = at ≡ record { line = line; name = cell.name }
IsOtherwiseAt line cell (L3 at) = ⊥
IsOtherwiseAt line cell Memory = Unit {0}

-- the fault of a cell that a library cannot have, at a line
abbrev pub IsOddAt : ℕ → Cell → LibFault → Type 0
IsOddAt line cell (L1 at) = ⊥
IsOddAt line cell (L2 at) = ⊥
IsOddAt line cell (L3 at) = at ≡ record { line = line; name = cell.name }
IsOddAt line cell Memory = Unit {0}

-- further cells are all put in, or one is the first that is given otherwise, at line 0
abbrev pub TakesAll : Union → List Cell → Result (Unit {0}) LibFault → Union → Type 0
TakesAll old more (Ok u) new = (before : List Cell) → IsUnionOf before old → IsUnionOf (before ++ more) new
TakesAll old more (Err (L1 at)) new = ⊥
TakesAll old more (Err (L2 at)) new =
    (before : List Cell) → IsUnionOf before old → (c : Cell) × IsFirstOther (λ (x : Cell). x) before more c × (at ≡ record { line = 0; name = c.name })
TakesAll old more (Err (L3 at)) new = ⊥
TakesAll old more (Err Memory) new = Unit {0}

-- the cells of a library's groups are put together, or one is the first that is given otherwise, at its group's line
abbrev pub JoinsPlaced : List PlacedCell → Result Cells LibFault → Type 0
JoinsPlaced placed (Ok cells) =
    HasNoPlace IsGivenOtherwise (map (λ (p : PlacedCell). p.cell) placed) × (cells ≡ record { cells = firsts same_cell_name (map (λ (p : PlacedCell). p.cell) placed) })
JoinsPlaced placed (Err (L1 at)) = ⊥
JoinsPlaced placed (Err (L2 at)) =
    (p : PlacedCell) × IsFirstOther (λ (x : PlacedCell). x.cell) [] placed p × (at ≡ record { line = p.line; name = p.cell.name })
JoinsPlaced placed (Err (L3 at)) = ⊥
JoinsPlaced placed (Err Memory) = Unit {0}

-- x is the first of things whose cell a library cannot have
pub record IsFirstOdd (placed : List PlacedCell) (p : PlacedCell) : Type 0 where
  pub front : List PlacedCell
  pub rest : List PlacedCell
  pub split : placed ≡ front ++ p ∷ rest
  pub straight : (q : PlacedCell) → IsIn q front → is_odd q.cell ≡ false
  pub odd : is_odd p.cell ≡ true

-- no cell is one that a library cannot have, or one is the first
abbrev pub ChecksRoles : List PlacedCell → Result (Unit {0}) LibFault → Type 0
ChecksRoles placed (Ok u) = (q : PlacedCell) → IsIn q placed → is_odd q.cell ≡ false
ChecksRoles placed (Err (L1 at)) = ⊥
ChecksRoles placed (Err (L2 at)) = ⊥
ChecksRoles placed (Err (L3 at)) = (p : PlacedCell) × IsFirstOdd placed p × (at ≡ record { line = p.line; name = p.cell.name })
ChecksRoles placed (Err Memory) = Unit {0}

-- what a library's text is read as: its cells, or the first of its faults in their order; want of memory is no fault of the text
abbrev pub IsReading : List ℕ → Result Cells LibFault → Type 0
IsReading text (Ok cells) = ReadsAsCells text cells
IsReading text (Err (L1 at)) = HasLibraryFault text (L1 at)
IsReading text (Err (L2 at)) = HasLibraryFault text (L2 at)
IsReading text (Err (L3 at)) = HasLibraryFault text (L3 at)
IsReading text (Err Memory) = Unit {0}

-- what two lists of cells are joined to, or the first fault
abbrev pub IsJoin : Cells → Cells → Result Cells LibFault → Type 0
IsJoin all more (Ok joined) = JoinsTo all more joined
IsJoin all more (Err (L1 at)) = ⊥
IsJoin all more (Err (L2 at)) = HasJoinFault all more (L2 at)
IsJoin all more (Err (L3 at)) = ⊥
IsJoin all more (Err Memory) = Unit {0}
