-- The cells and modules that a job reads: they are what a design is made from.
use Rattle.std.proofs.Common.{ℕ, List, [], ◌∷◌, refl, sym, subst}
use Rattle.pw_defs.specs.declared.cells.Cell.{Cell}
use Rattle.pw_defs.specs.declared.cells.Cells.{Cells}
use Rattle.pw_outer.specs.Fetches.{Files}
use Rattle.design_defs.specs.DesignFaults.{sources}
use Rattle.design_defs.specs.Inputs.{AreReadSources}
use Rattle.design_laws.specs.FullNames.{HaveFullNames}
use Rattle.step_defs.specs.Steps.{for_each, in_turn}
use Rattle.job_defs.specs.FileFaults.{ReadNetlist, modules_of}
use Rattle.job_defs.specs.Jobs.{Job, libraries, netlists}
use Rattle.job_defs.specs.Loading.{all_cells, all_netlists, netlist_read, no_cells, one_library_more}
use Rattle.job_readings.specs.Readings.{readers}
use Rattle.read_laws.specs.Laws.{AreFullModules, AreReadCells, AreReadModules}
use Rattle.read_laws.proofs.GivenCells.{libraries_give_cells}
use Rattle.read_laws.proofs.GivenModules.{full_names_are_given, netlists_give_modules}
use Rattle.read_laws.proofs.ReadSources.{joined_are_read, more_are_full, more_are_read, no_cells_are_read, no_modules_are_full, no_modules_are_read}

-- the cells of libraries, one after another
pub cells_are_read : (files : Files) (start : Cells) (names : List (List ℕ)) (cells : Cells)
    → (in_turn (one_library_more readers files) start names).gives cells → AreReadCells start → AreReadCells cells
cells_are_read files start [] cells given of_start = subst AreReadCells (sym given) of_start
cells_are_read files start (name ∷ names) cells given of_start =
    let next = given.1 in
    cells_are_read files given.0 names cells given.2 (joined_are_read start next.0 given.0 next.2 of_start
    (libraries_give_cells _ next.0 next.1))

-- the modules of netlists, one after another
pub modules_are_read : (files : Files) (names : List (List ℕ)) (read : List ReadNetlist) → (for_each (netlist_read readers files) names).gives read
    → AreReadModules (modules_of read)
modules_are_read files [] read given = subst (λ (r : List ReadNetlist). AreReadModules (modules_of r)) (sym given) no_modules_are_read
modules_are_read files (name ∷ names) read given = subst (λ (r : List ReadNetlist). AreReadModules (modules_of r)) (sym given.2.2)
    (more_are_read given.0.modules (modules_of given.2.0) of_first (modules_are_read files names given.2.0 given.2.1))
  where
    of_first : AreReadModules given.0.modules
    of_first = subst (λ (n : ReadNetlist). AreReadModules n.modules) (sym given.1.2) (netlists_give_modules _ given.1.0 given.1.1)

pub modules_are_full : (files : Files) (names : List (List ℕ)) (read : List ReadNetlist) → (for_each (netlist_read readers files) names).gives read
    → AreFullModules (modules_of read)
modules_are_full files [] read given = subst (λ (r : List ReadNetlist). AreFullModules (modules_of r)) (sym given) no_modules_are_full
modules_are_full files (name ∷ names) read given = subst (λ (r : List ReadNetlist). AreFullModules (modules_of r)) (sym given.2.2)
    (more_are_full given.0.modules (modules_of given.2.0) of_first (modules_are_full files names given.2.0 given.2.1))
  where
    of_first : AreFullModules given.0.modules
    of_first = subst (λ (n : ReadNetlist). AreFullModules n.modules) (sym given.1.2) (full_names_are_given _ given.1.0 given.1.1)

-- The modules and cells that a job reads fit together: they are what a design is made from.
pub sources_are_read : (files : Files) (job : Job) (cells : Cells) (read : List ReadNetlist) → (all_cells readers files job).gives cells
    → (all_netlists readers files job).gives read → AreReadSources (sources (modules_of read) cells [] job.top)
sources_are_read files job cells read of_libraries of_netlists =
    let of_cells = cells_are_read files no_cells (libraries job) cells of_libraries no_cells_are_read in
    record {
      each_cell = of_cells.each;
      each_module = modules_are_read files (netlists job) read of_netlists;
      each_model = λ m i. absurd i;
      cell_names = of_cells.names;
      model_names = refl;
    }

-- No name in the modules that a job reads is empty.
pub sources_have_full_names : (files : Files) (job : Job) (cells : Cells) (read : List ReadNetlist) → (all_netlists readers files job).gives read
    → HaveFullNames (sources (modules_of read) cells [] job.top)
sources_have_full_names files job cells read of_netlists = modules_are_full files (netlists job) read of_netlists
