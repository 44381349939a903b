-- Where no two cells have one name, none is given otherwise.
use Rattle.std.proofs.Common.{◌≡◌, ℕ, true, List, ◌∷◌, ◌++◌, map, sym, ap, ◌∙◌, subst}
use Rattle.std.proofs.lemmas.List.{map-append}
use Rattle.std.proofs.lemmas.Bool.{true≢false}
use Rattle.list_defs.specs.Members.{IsIn, all_differ, same_name}
use Rattle.list_defs.proofs.Members.{IsIn-map}
use Rattle.list_defs.proofs.NameLemmas.{all_differ-again, list_any-IsIn}
use Rattle.pw_defs.specs.declared.cells.Cell.{Cell}
use Rattle.text_defs.specs.FirstPlace.{HasNoPlace}
use Rattle.lib_cells.specs.Groups.{CellGroup}
use Rattle.lib_cells.specs.CellsMeant.{cell_of}
use Rattle.lib_cells.specs.Joins.{IsGivenOtherwise}
use Rattle.lib_cells.specs.LibraryFaults.{IsOtherGroup}

abbrev pub name_of : Cell → List ℕ
name_of cell = cell.name

pub none_otherwise : (cells : List Cell) → all_differ same_name (map name_of cells) ≡ true → HasNoPlace IsGivenOtherwise cells
none_otherwise cells differ front cell rest split given =
    let there : IsIn cell.name (map name_of front) = subst (λ n. IsIn n (map name_of front)) given.2 (IsIn-map name_of given.0 front given.1) in
    let names : map name_of cells ≡ map name_of front ++ cell.name ∷ map name_of rest = ap (map name_of) split ∙ map-append name_of front (cell ∷ rest) in
    let again = all_differ-again (map name_of front) cell.name (map name_of rest) (list_any-IsIn cell.name (map name_of front) there) in
    true≢false (sym differ ∙ ap (all_differ same_name) names ∙ again)

-- the same of groups and the cells that they mean
pub none_other_group : (groups : List CellGroup) → HasNoPlace IsGivenOtherwise (map cell_of groups) → HasNoPlace IsOtherGroup groups
none_other_group groups none front y rest split given =
    none (map cell_of front) (cell_of y) (map cell_of rest) (ap (map cell_of) split ∙ map-append cell_of front (y ∷ rest)) given
