-- What reading a library's text answers: the cells of its groups, or where it is cut short.
use Rattle.std.specs.Prelude.{◌≡◌, ℕ, List, map, Result, Ok, Err, codes}
use Rattle.pw_defs.specs.declared.faults.LibFault.{LibFault}
use Rattle.pw_defs.specs.declared.faults.LibFault.TheVariants.{L1, L2, L3, Memory}
use Rattle.text_defs.specs.Grammar.{read_whole}
use Rattle.text_defs.specs.Tokens.{Token}
use Rattle.text_streams.specs.declared.stops.Stop.{Stop}
use Rattle.text_streams.specs.declared.stops.Stop.TheVariants as stops
use Rattle.lib_cells.specs.LibraryWords.{LibraryClass}
use Rattle.lib_cells.specs.Groups.{CellGroup, library_group}
use Rattle.lib_cells.specs.LibraryFaults.{HasGroups, IsCutShort}
use Rattle.lib_cells.specs.CellViews.{placed_of}
use Rattle.lib_cells.specs.declared.libraries.PlacedCell.{PlacedCell}

-- what a whole text is read as, or where its fault stands
abbrev pub ShowsWhole : List (Token LibraryClass) → Result (List PlacedCell) Stop → List (Token LibraryClass) → Type 0
ShowsWhole old (Ok cells) new = (groups : List CellGroup) × (read_whole library_group old ≡ Ok groups) × (cells ≡ map placed_of groups)
ShowsWhole old (Err stops.Fault) new = read_whole library_group old ≡ Err new
ShowsWhole old (Err stops.Memory) new = Unit {0}

-- the fault of a text that is cut short at a line, where there is memory to say so
abbrev pub IsCutAt : ℕ → LibFault → Type 0
IsCutAt line (L1 at) = at ≡ record { line = line; name = codes "-" }
IsCutAt line (L2 at) = ⊥
IsCutAt line (L3 at) = ⊥
IsCutAt line Memory = Unit {0}

-- The text is a library, and these are the cells of its groups, each with the line of its group; or it is cut short.
abbrev pub ReadsGroups : List ℕ → Result (List PlacedCell) LibFault → Type 0
ReadsGroups text (Ok cells) = (groups : List CellGroup) × HasGroups text groups × (cells ≡ map placed_of groups)
ReadsGroups text (Err (L1 at)) = IsCutShort text at
ReadsGroups text (Err (L2 at)) = ⊥
ReadsGroups text (Err (L3 at)) = ⊥
ReadsGroups text (Err Memory) = Unit {0}
