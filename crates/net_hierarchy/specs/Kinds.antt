-- Tables that find models, modules and cells by their names.
use Rattle.std.specs.Prelude.{◌≡◌, ℕ, List, Option, length, map, option_map, option_and_then, slice_get}
use Rattle.std.specs.Option.{option_or}
use Rattle.pw_defs.specs.declared.design.Body.{Body}
use Rattle.pw_defs.specs.declared.design.Body.TheVariants.{Module as ModuleBody, Cell as CellBody, Model as ModelBody}
use Rattle.list_defs.specs.Members.{place_of, same_name}
use Rattle.pw_defs.specs.declared.cells.Cell.{Cell}
use Rattle.pw_defs.specs.declared.cells.Cells.{Cells}
use Rattle.pw_defs.specs.declared.model.Model.{Model}
use Rattle.pw_defs.specs.declared.netlist.Inst.{Inst}
use Rattle.pw_defs.specs.declared.netlist.Module.{Module}
use Rattle.net_hierarchy.specs.declared.firsts.Firsts.{Firsts}
use Rattle.net_hierarchy.specs.declared.kinds.Kinds.{Kinds}

-- where a table leads from a name
abbrev pub first_place : Firsts → List ℕ → Option ℕ
first_place f name = option_and_then (slice_get f.places.items) (place_of (same_name name) f.index)

-- the table leads from each name to its first place among the names
pub record AreFirsts (names : List (List ℕ)) (f : Firsts) : Type 0 where
  pub count : length f.places.items ≡ length f.index
  pub found : (name : List ℕ) → first_place f name ≡ place_of (same_name name) names

-- the names of modules, of cells, and of the modules that models are of
abbrev pub module_names : List Module → List (List ℕ)
module_names = map (λ (m : Module). m.name)

abbrev pub cell_names : List Cell → List (List ℕ)
cell_names = map (λ (c : Cell). c.name)

abbrev pub model_names : List Model → List (List ℕ)
model_names = map (λ (m : Model). m.module)

-- the tables of modules, cells and models
pub record AreKinds (modules : List Module) (cells : Cells) (models : List Model) (k : Kinds) : Type 0 where
  pub of_modules : AreFirsts (module_names modules) k.modules
  pub of_cells : AreFirsts (cell_names cells.cells) k.cells
  pub of_models : AreFirsts (model_names models) k.models

-- what the tables say of the name of a type
abbrev pub type_in : Kinds → List ℕ → Option Body
type_in k kind =
    option_or (option_map ModelBody (first_place k.models kind))
    (option_or (option_map ModuleBody (first_place k.modules kind)) (option_map CellBody (first_place k.cells kind)))

-- the types that the tables give the instances of modules
abbrev pub types_by : Kinds → List Module → List (List (Option Body))
types_by k modules = map (λ (m : Module). map (λ (i : Inst). type_in k i.kind) m.insts) modules
