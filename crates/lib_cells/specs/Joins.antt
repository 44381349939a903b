-- Cells that are given again, and lists of cells put together.
use Rattle.std.specs.Prelude.{◌≡◌, ◌≢◌, Bool, List, ◌++◌}
use Rattle.list_defs.specs.Members.{IsIn, same_name}
use Rattle.pw_defs.specs.declared.cells.Cell.{Cell}
use Rattle.pw_defs.specs.declared.cells.Cells.{Cells}
use Rattle.pw_defs.specs.declared.faults.LibFault.{LibFault}
use Rattle.pw_defs.specs.declared.faults.LibFault.TheVariants.{L1, L2, L3, Memory}
use Rattle.text_defs.specs.FirstPlace.{IsFirstPlace, HasNoPlace, firsts}

-- a cell of this name stands before it, with other pins or roles
abbrev pub IsGivenOtherwise : List Cell → Cell → List Cell → Type 0
IsGivenOtherwise before cell behind = (other : Cell) × IsIn other before × (other.name ≡ cell.name) × (other ≢ cell)

-- whether two cells have one name
abbrev pub same_cell_name : Cell → Cell → Bool
same_cell_name a b = same_name a.name b.name

-- The cells of both lists, in order: one that is given again alike stands once, at the place where it first came. None is given otherwise.
pub record JoinsTo (all more joined : Cells) : Type 0 where
  pub alike : HasNoPlace IsGivenOtherwise (all.cells ++ more.cells)
  pub value : joined ≡ record { cells = firsts same_cell_name (all.cells ++ more.cells) }

-- The first cell that is given otherwise, at line 0, is the fault of two lists.
abbrev pub HasJoinFault : Cells → Cells → LibFault → Type 0
HasJoinFault all more (L1 at) = ⊥
HasJoinFault all more (L2 at) = (cell : Cell) × IsFirstPlace IsGivenOtherwise (all.cells ++ more.cells) cell × (at ≡ record { line = 0; name = cell.name })
HasJoinFault all more (L3 at) = ⊥
HasJoinFault all more Memory = ⊥
