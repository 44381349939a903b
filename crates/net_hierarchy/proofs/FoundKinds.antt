-- What the tables of modules, cells and models say of a name.
use Rattle.std.proofs.Common.{◌≡◌, ℕ, List, map, ◌∙◌, refl}
use Rattle.list_defs.specs.Members.{same_name}
use Rattle.list_defs.proofs.NameLemmas.{place_of-map}
use Rattle.pw_defs.specs.declared.cells.Cell.{Cell}
use Rattle.pw_defs.specs.declared.model.Model.{Model}
use Rattle.pw_defs.specs.declared.netlist.Inst.{Inst}
use Rattle.pw_defs.specs.declared.netlist.Module.{Module}
use Rattle.design_defs.specs.Hierarchy.{Sources, cell_named, model_named, module_named, type_of}
use Rattle.net_hierarchy.specs.Kinds.{AreKinds, first_place, type_in, types_by}
use Rattle.net_hierarchy.specs.Graph.{types_of}
use Rattle.net_hierarchy.specs.declared.kinds.Kinds.{Kinds}

pub module_found : (s : Sources) (k : Kinds) → AreKinds s.modules s.cells s.models k → (name : List ℕ) → first_place k.modules name ≡ module_named s name
module_found s k are name = are.of_modules.found name ∙ place_of-map (λ (m : Module). m.name) (same_name name) s.modules

pub cell_found : (s : Sources) (k : Kinds) → AreKinds s.modules s.cells s.models k → (name : List ℕ) → first_place k.cells name ≡ cell_named s name
cell_found s k are name = are.of_cells.found name ∙ place_of-map (λ (c : Cell). c.name) (same_name name) s.cells.cells

pub model_found : (s : Sources) (k : Kinds) → AreKinds s.modules s.cells s.models k → (name : List ℕ) → first_place k.models name ≡ model_named s name
model_found s k are name = are.of_models.found name ∙ place_of-map (λ (m : Model). m.module) (same_name name) s.models

pub type_found : (s : Sources) (k : Kinds) → AreKinds s.modules s.cells s.models k → (kind : List ℕ) → type_in k kind ≡ type_of s kind
type_found s k are kind = rw (model_found s k are kind, module_found s k are kind, cell_found s k are kind) refl

pub types_found : (s : Sources) (k : Kinds) → AreKinds s.modules s.cells s.models k → types_by k s.modules ≡ types_of s
types_found s k are j = map (λ (m : Module). map (λ (i : Inst). type_found s k are i.kind j) m.insts) s.modules
