-- What is known of the cells of libraries and the modules of netlists that were read.
use Rattle.std.specs.Prelude.{◌≡◌, ◌≢◌, ℕ, List, [], ◌∷◌, ◌++◌, map}
use Rattle.pw_defs.specs.declared.cells.Cell.{Cell}
use Rattle.pw_defs.specs.declared.cells.Cells.{Cells}
use Rattle.pw_defs.specs.declared.netlist.Module.{Module}
use Rattle.list_defs.specs.Members.{IsIn}
use Rattle.lib_cells.specs.Joins.{JoinsTo}
use Rattle.lib_cells.specs.LibraryFaults.{ReadsAsCells}
use Rattle.net_text.specs.NetlistFaults.{ReadsAsModules}
use Rattle.design_defs.specs.DesignFaults.{sources}
use Rattle.design_defs.specs.Inputs.{AllDiffer, AreReadSources, IsReadCell, IsReadModule}
use Rattle.design_laws.specs.FullNames.{HaveFullNames, names_of}

-- cells as libraries give them, each of a name of its own
pub record AreReadCells (cells : Cells) : Type 0 where
  pub each : (c : Cell) → IsIn c cells.cells → IsReadCell c
  pub names : AllDiffer (map (λ (c : Cell). c.name) cells.cells)

-- modules as netlists give them
abbrev pub AreReadModules : List Module → Type 0
AreReadModules modules = (m : Module) → IsIn m modules → IsReadModule m

-- modules in which no name is empty
abbrev pub AreFullModules : List Module → Type 0
AreFullModules modules = (m : Module) (name : List ℕ) → IsIn m modules → IsIn name (names_of m) → name ≢ []

-- the text of a library gives such cells
abbrev pub LibrariesGiveCells : Type 0
LibrariesGiveCells = (text : List ℕ) (cells : Cells) → ReadsAsCells text cells → AreReadCells cells

-- the text of a netlist gives such modules
abbrev pub NetlistsGiveModules : Type 0
NetlistsGiveModules = (text : List ℕ) (modules : List Module) → ReadsAsModules text modules → AreReadModules modules

-- no name in them is empty
abbrev pub NetlistsGiveFullNames : Type 0
NetlistsGiveFullNames = (text : List ℕ) (modules : List Module) → ReadsAsModules text modules → AreFullModules modules

-- the cells of libraries' texts, joined one after the other to those before them
abbrev pub AreJoinedCells : Cells → List (List ℕ) → Cells → Type 0
AreJoinedCells before [] cells = cells ≡ before
AreJoinedCells before (text ∷ texts) cells =
    (more : Cells) × (joined : Cells) × ReadsAsCells text more × JoinsTo before more joined × AreJoinedCells joined texts cells

-- the modules of netlists' texts, one list behind the other
abbrev pub AreModulesOf : List (List ℕ) → List Module → Type 0
AreModulesOf [] modules = modules ≡ []
AreModulesOf (text ∷ texts) modules =
    (first : List Module) × (rest : List Module) × ReadsAsModules text first × AreModulesOf texts rest × (modules ≡ first ++ rest)

-- What libraries and netlists give is what a design is made from, and no name in its modules is empty, whichever the top is.
abbrev pub ReadSourcesFit : Type 0
ReadSourcesFit =
    (libraries netlists : List (List ℕ)) (cells : Cells) (modules : List Module) (top : List ℕ)
    → AreJoinedCells (record { cells = [] }) libraries cells → AreModulesOf netlists modules
    → AreReadSources (sources modules cells [] top) × HaveFullNames (sources modules cells [] top)
