-- What libraries and netlists give, one behind the other, is what a design is made from.
use Rattle.std.proofs.Common.{ℕ, List, [], ◌∷◌, ◌++◌, inl, inr, refl, sym, subst}
use Rattle.pw_defs.specs.declared.cells.Cell.{Cell}
use Rattle.pw_defs.specs.declared.cells.Cells.{Cells}
use Rattle.pw_defs.specs.declared.netlist.Module.{Module}
use Rattle.list_defs.specs.Members.{IsIn}
use Rattle.list_defs.proofs.Members.{IsIn-append_cases}
use Rattle.lib_cells.specs.Joins.{JoinsTo, same_cell_name}
use Rattle.design_defs.specs.Inputs.{IsReadCell}
use Rattle.read_laws.specs.Laws.{AreFullModules, AreJoinedCells, AreModulesOf, AreReadCells, AreReadModules, ReadSourcesFit}
use Rattle.read_laws.proofs.GivenCells.{libraries_give_cells}
use Rattle.read_laws.proofs.GivenModules.{full_names_are_given, netlists_give_modules}
use Rattle.read_laws.proofs.OwnNames.{differ_apart, firsts_apart, firsts_in}

-- ---- cells

abbrev name_of : Cell → List ℕ
name_of cell = cell.name

pub no_cells_are_read : AreReadCells (record { cells = [] })
no_cells_are_read = record { each = λ c i. absurd i; names = refl }

pub joined_are_read : (all more joined : Cells) → JoinsTo all more joined → AreReadCells all → AreReadCells more → AreReadCells joined
joined_are_read all more joined joins of_all of_more = subst AreReadCells (sym joins.value) (record {
  each = λ c i. each c (firsts_in same_cell_name (all.cells ++ more.cells) c i);
  names = differ_apart _ (firsts_apart name_of (all.cells ++ more.cells));
})
  where
    each : (c : Cell) → IsIn c (all.cells ++ more.cells) → IsReadCell c
    each c i = elim (IsIn-append_cases c all.cells more.cells i) [ inl before ↦ of_all.each c before | inr behind ↦ of_more.each c behind ]

cells_are_read : (before : Cells) (texts : List (List ℕ)) (cells : Cells) → AreReadCells before → AreJoinedCells before texts cells → AreReadCells cells
cells_are_read before [] cells read given = subst AreReadCells (sym given) read
cells_are_read before (text ∷ texts) cells read given =
    cells_are_read given.1 texts cells (joined_are_read before given.0 given.1 given.3 read (libraries_give_cells text given.0 given.2)) given.4

-- ---- modules

pub no_modules_are_read : AreReadModules []
no_modules_are_read m i = absurd i

pub more_are_read : (modules more : List Module) → AreReadModules modules → AreReadModules more → AreReadModules (modules ++ more)
more_are_read modules more of_modules of_more m i =
    elim (IsIn-append_cases m modules more i) [ inl before ↦ of_modules m before | inr behind ↦ of_more m behind ]

pub no_modules_are_full : AreFullModules []
no_modules_are_full m name i there = absurd i

pub more_are_full : (modules more : List Module) → AreFullModules modules → AreFullModules more → AreFullModules (modules ++ more)
more_are_full modules more of_modules of_more m name i there =
    elim (IsIn-append_cases m modules more i) [ inl before ↦ of_modules m name before there | inr behind ↦ of_more m name behind there ]

modules_are_read : (texts : List (List ℕ)) (modules : List Module) → AreModulesOf texts modules → AreReadModules modules
modules_are_read [] modules given = subst AreReadModules (sym given) no_modules_are_read
modules_are_read (text ∷ texts) modules given =
    subst AreReadModules (sym given.4)
    (more_are_read given.0 given.1 (netlists_give_modules text given.0 given.2) (modules_are_read texts given.1 given.3))

modules_are_full : (texts : List (List ℕ)) (modules : List Module) → AreModulesOf texts modules → AreFullModules modules
modules_are_full [] modules given = subst AreFullModules (sym given) no_modules_are_full
modules_are_full (text ∷ texts) modules given =
    subst AreFullModules (sym given.4)
    (more_are_full given.0 given.1 (full_names_are_given text given.0 given.2) (modules_are_full texts given.1 given.3))

-- what was read fits together, and no name in it is empty
pub read_sources_fit : ReadSourcesFit
read_sources_fit libraries netlists cells modules top of_libraries of_netlists =
    let of_cells = cells_are_read (record { cells = [] }) libraries cells no_cells_are_read of_libraries in (
      record {
        each_cell = of_cells.each;
        each_module = modules_are_read netlists modules of_netlists;
        each_model = λ m i. absurd i;
        cell_names = of_cells.names;
        model_names = refl;
      },
      modules_are_full netlists modules of_netlists,
    )
