-- The library of the worked jobs is read as its cells.
use Rattle.std.proofs.Common.{ℕ, List, [], ◌∷◌, Ok, Err, refl}
use Rattle.worked_jobs.specs.Texts.{cells_text}
use Rattle.worked_jobs.specs.Libraries.{buffer, isolation, shifter, library}
use Rattle.text_defs.specs.Grammar.{read_whole}
use Rattle.lib_cells.specs.LibraryWords.{library_tokens}
use Rattle.lib_cells.specs.Groups.{CellGroup, library_group}
use Rattle.lib_cells.specs.LibraryFaults.{ReadsAsCells}
use Rattle.lib_cells.proofs.LibraryLaws.{groups_read, none_odd}
use Rattle.lib_cells.proofs.Apart.{none_otherwise, none_other_group}
use Rattle.lib_cells.proofs.WorkedLibraries.{computing}

abbrev groups_of : List ℕ → List CellGroup
groups_of text = elim (read_whole library_group (library_tokens text)) [ Ok groups ↦ groups | Err left ↦ [] ]

pub the_library_is_read : ReadsAsCells cells_text library
unfolding computing
the_library_is_read =
    let groups : List CellGroup = groups_of cells_text in
    record {
      groups = groups;
      reads = groups_read cells_text groups refl;
      straight = none_odd groups refl;
      alike = none_other_group groups (none_otherwise (buffer ∷ isolation ∷ shifter ∷ []) refl);
      value = refl;
    }
