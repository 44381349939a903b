-- The hierarchy of instances that modules, cells and models make below a top.
use Rattle.std.specs.Prelude.{◌≡◌, ◌≢◌, ℕ, List, [], ◌∷◌, Option, Some, None, option_map, option_and_then, slice_get}
use Rattle.std.specs.List.{find}
use Rattle.std.specs.Option.{option_or}
use Rattle.std.specs.Ordering.{on}
use Rattle.std.specs.Cmp.Lexicographic.{slice_cmp}
use Rattle.std.specs.declared.cmp.Ordering.{Ordering}
use Rattle.pw_defs.specs.declared.cells.Cell.{Cell}
use Rattle.pw_defs.specs.declared.cells.Cells.{Cells}
use Rattle.pw_defs.specs.declared.design.Body.{Body}
use Rattle.pw_defs.specs.declared.design.Body.TheVariants.{Module as ModuleBody, Cell as CellBody, Model as ModelBody}
use Rattle.pw_defs.specs.declared.model.Model.{Model}
use Rattle.pw_defs.specs.declared.netlist.Inst.{Inst}
use Rattle.pw_defs.specs.declared.netlist.Module.{Module}
use Rattle.pw_defs.specs.declared.netlist.Port.{Port}
use Rattle.list_defs.specs.Members.{IsIn, place_of, same_name}
use Rattle.list_defs.specs.Orders.{name_cmp}
use Rattle.design_defs.specs.Names.{joined}
use Rattle.design_defs.specs.Ports.{ports_among}

-- what a design is made from: the modules of the netlists, the cells of the libraries, the models, and the top's name
pub record Sources : Type 0 where
  pub modules : List Module
  pub cells : Cells
  pub models : List Model
  pub top : List ℕ

-- the first of a list that has a name
abbrev pub number_named : {X : Type 0} → (X → List ℕ) → List ℕ → List X → Option ℕ
number_named name_of name = place_of (λ x. same_name name (name_of x))

-- the module of a name
abbrev pub module_named : Sources → List ℕ → Option ℕ
module_named s name = number_named (λ (m : Module). m.name) name s.modules

-- the cell of a name
abbrev pub cell_named : Sources → List ℕ → Option ℕ
cell_named s name = number_named (λ (c : Cell). c.name) name s.cells.cells

-- the model of the module of a name
abbrev pub model_named : Sources → List ℕ → Option ℕ
model_named s name = number_named (λ (m : Model). m.module) name s.models

-- What a type is below the top: where there is a model of that name, the model, else the module, else the cell.
abbrev pub type_of : Sources → List ℕ → Option Body
type_of s kind =
    option_or (option_map ModelBody (model_named s kind))
    (option_or (option_map ModuleBody (module_named s kind)) (option_map CellBody (cell_named s kind)))

-- the way down to an instance: the names of the instances that lead to it, its own first; the top has the empty way
abbrev pub Way : Type 0
Way = List (List ℕ)

-- the joined path of a way
abbrev pub path : Way → List ℕ
path [] = []
path (name ∷ outer) = joined (path outer) name

-- the paths of an instance and of those that it is inside, its own first
abbrev pub paths : Way → List (List ℕ)
paths [] = []
paths (name ∷ outer) = path (name ∷ outer) ∷ paths outer

-- instances go by their paths, the top first; of two with one path, by what they are inside
abbrev pub way_cmp : Way → Way → Ordering
way_cmp = on paths (slice_cmp name_cmp)

-- a module by its number
abbrev pub module_at : Sources → ℕ → Option Module
module_at s m = slice_get s.modules m

-- the line of a module that makes the instance of this name
abbrev pub inst_named : Module → List ℕ → Option Inst
inst_named m name = find (λ i. same_name name i.name) m.insts

-- what a module has under a name of an instance; cells and models show nothing inside
abbrev pub body_inside : Sources → List ℕ → Body → Option Body
body_inside s name (ModuleBody m) = option_and_then (λ (i : Inst). type_of s i.kind) (option_and_then (λ x. inst_named x name) (module_at s m))
body_inside s name (CellBody c) = None
body_inside s name (ModelBody m) = None

-- What is at the end of a way: the top is always a module; further down it is what the module at the outer way has there.
abbrev pub body_at : Sources → Way → Option Body
body_at s [] = option_map ModuleBody (module_named s s.top)
body_at s (name ∷ outer) = option_and_then (body_inside s name) (body_at s outer)

-- a way that leads to an instance
abbrev pub IsInstance : Sources → Way → Type 0
IsInstance s way = (body : Body) × (body_at s way ≡ Some body)

-- the module whose lines stand in an instance
abbrev pub module_of : Sources → Option Body → Option Module
module_of s None = None
module_of s (Some (ModuleBody m)) = module_at s m
module_of s (Some (CellBody c)) = None
module_of s (Some (ModelBody m)) = None

-- The instance at the way is of this module, which has this number.
pub record IsOfModule (s : Sources) (way : Way) (number : ℕ) (m : Module) : Type 0 where
  pub body : body_at s way ≡ Some (ModuleBody number)
  pub is_module : module_at s number ≡ Some m

-- the ports of what a type is
abbrev pub ports_in : Sources → Body → Option (List Port)
ports_in s = ports_among s.modules s.cells s.models

-- there is such a module, cell or model
abbrev pub HasBody : Sources → Body → Type 0
HasBody s b = (ports : List Port) × (ports_in s b ≡ Some ports)

-- no module has an instance without a name
abbrev pub AreNamedInsts : Sources → Type 0
AreNamedInsts s = (n : ℕ) (m : Module) (i : Inst) → module_at s n ≡ Some m → IsIn i m.insts → i.name ≢ []
