-- Cells as libraries give them, and cells that none gives.
use Rattle.std.proofs.Common.{false, [], ◌∷◌, Some, None, codes, inl, refl, arith}
use Rattle.std.proofs.lemmas.Bool.{false≢true}
use Rattle.worked_jobs.specs.Libraries.{buffer, library}
use Rattle.worked_jobs.specs.Texts.{cells_text}
use Rattle.lib_cells.proofs.WorkedJobs.{the_library_is_read}
use Rattle.read_laws.specs.Laws.{AreReadCells}
use Rattle.read_laws.proofs.GivenCells.{libraries_give_cells}

pub the_cells_of_the_library_are_read : AreReadCells library
the_cells_of_the_library_are_read = libraries_give_cells cells_text library the_library_is_read

-- a through pin is a pin of the cell
pub no_cell_has_its_role_without_the_pin :
    AreReadCells (record { cells = record { name = codes "B"; pins = []; iso = false; shift = false; through = Some 0; enable = None } ∷ [] }) → ⊥
no_cell_has_its_role_without_the_pin read = let within = (read.each _ (inl refl)).pins.through_in in omega (arith, within)

-- no cell comes twice
pub no_cell_comes_twice : AreReadCells (record { cells = buffer ∷ buffer ∷ [] }) → ⊥
no_cell_comes_twice read = false≢true read.names
