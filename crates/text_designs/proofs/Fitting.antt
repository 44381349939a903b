-- What libraries and netlists give is what a design is made from, below any top and with any models.
use Rattle.std.proofs.Common.{ℕ, List, [], ◌∷◌, refl, sym, subst}
use Rattle.pw_defs.specs.declared.cells.Cells.{Cells}
use Rattle.pw_defs.specs.declared.model.Model.{Model}
use Rattle.pw_defs.specs.declared.netlist.Module.{Module}
use Rattle.design_defs.specs.DesignFaults.{sources}
use Rattle.design_defs.specs.Inputs.{AreReadSources}
use Rattle.design_laws.specs.FullNames.{HaveFullNames}
use Rattle.read_laws.specs.Laws.{AreJoinedCells, AreModulesOf}
use Rattle.read_laws.proofs.ReadSources.{read_sources_fit}
use Rattle.text_designs.specs.Texts.{AreNetlists, AreReadAs, AreReadEach, AreReadModels, all_of, no_cells}

modules_of : (netlists : List (List ℕ)) (lists : List (List Module)) → AreReadEach netlists lists → AreModulesOf netlists (all_of lists)
modules_of [] [] read = refl
modules_of [] (modules ∷ lists) read = absurd read
modules_of (text ∷ netlists) [] read = absurd read
modules_of (text ∷ netlists) (modules ∷ lists) read = (modules, all_of lists, read.0, modules_of netlists lists read.1, refl)

module _ (libraries netlists : List (List ℕ)) (cells : Cells) (lists : List (List Module)) (models : List Model) (top : List ℕ) (read : AreReadAs libraries netlists cells lists) where
  pub texts_fit : AreReadModels models → AreReadSources (sources (all_of lists) cells models top)
  texts_fit of_models =
      let alone = (read_sources_fit libraries netlists cells (all_of lists) top read.joined (modules_of netlists lists read.read)).0 in
      record {
        each_cell = alone.each_cell;
        each_module = alone.each_module;
        each_model = of_models.each;
        cell_names = alone.cell_names;
        model_names = of_models.names;
      }

  pub texts_full : HaveFullNames (sources (all_of lists) cells models top)
  texts_full = (read_sources_fit libraries netlists cells (all_of lists) top read.joined (modules_of netlists lists read.read)).1

module _ (libraries netlists : List (List ℕ)) (models : List Model) (top : List ℕ) (cells : Cells) (modules : List Module) (counts : List ℕ)
    (joined : AreJoinedCells no_cells libraries cells) (read : AreNetlists netlists modules counts) where
  read_as : AreReadAs libraries netlists cells read.lists
  read_as = record { joined = joined; read = read.read }

  pub given_fit : AreReadModels models → AreReadSources (sources modules cells models top)
  given_fit of_models = subst (λ (ms : List Module). AreReadSources (sources ms cells models top)) (sym read.all)
      (texts_fit libraries netlists cells read.lists models top read_as of_models)

  pub given_full : HaveFullNames (sources modules cells models top)
  given_full = subst (λ (ms : List Module). HaveFullNames (sources ms cells models top)) (sym read.all)
      (texts_full libraries netlists cells read.lists models top read_as)
