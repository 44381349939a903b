-- The line that makes an instance, and the instances that lead to it.
use Rattle.std.proofs.Common.{◌≡◌, ℕ, List, [], ◌∷◌, Option, Some, None, option_map, option_and_then, refl}
use Rattle.pw_defs.specs.declared.design.Body.{Body}
use Rattle.pw_defs.specs.declared.design.Body.TheVariants.{Module as ModuleBody, Cell as CellBody, Model as ModelBody}
use Rattle.pw_defs.specs.declared.netlist.Inst.{Inst}
use Rattle.pw_defs.specs.declared.netlist.Module.{Module}
use Rattle.design_defs.specs.Hierarchy.{IsOfModule, Sources, Way, body_at, body_inside, inst_named, module_at, module_named, type_of}
use Rattle.design_defs.specs.Links.{IsInstLine}

-- the line by which an instance is inside another, and what it makes there
pub record IsMadeBy (s : Sources) (name : List ℕ) (outer : Way) (body : Body) : Type 0 where
  pub number : ℕ
  pub of_module : Module
  pub is_module : IsOfModule s outer number of_module
  pub inst : Inst
  pub is_inst : inst_named of_module name ≡ Some inst
  pub is_type : type_of s inst.kind ≡ Some body

pub line_of : (s : Sources) (name : List ℕ) (outer : Way) (body : Body) → body_at s (name ∷ outer) ≡ Some body → IsMadeBy s name outer body
line_of s name outer body e = of_outer (body_at s outer) refl e
  where
    of_inst : (n : ℕ) (m : Module) → IsOfModule s outer n m → (o : Option Inst) → inst_named m name ≡ o
        → option_and_then (λ (i : Inst). type_of s i.kind) o ≡ Some body → IsMadeBy s name outer body
    of_inst n m is None none h = cc
    of_inst n m is (Some i) found h = record { number = n; of_module = m; is_module = is; inst = i; is_inst = found; is_type = h }

    of_module : (n : ℕ) → body_at s outer ≡ Some (ModuleBody n) → (o : Option Module) → module_at s n ≡ o
        → option_and_then (λ (i : Inst). type_of s i.kind) (option_and_then (λ (x : Module). inst_named x name) o) ≡ Some body → IsMadeBy s name outer body
    of_module n there None none h = cc
    of_module n there (Some m) is h = of_inst n m (record { body = there; is_module = is }) (inst_named m name) refl h

    of_outer : (o : Option Body) → body_at s outer ≡ o → option_and_then (body_inside s name) o ≡ Some body → IsMadeBy s name outer body
    of_outer None none h = cc
    of_outer (Some (ModuleBody n)) there h = of_module n there (module_at s n) refl h
    of_outer (Some (CellBody c)) there h = cc
    of_outer (Some (ModelBody m)) there h = cc

-- the same as what links and faults speak of
pub inst_line : (s : Sources) (name : List ℕ) (outer : Way) (body : Body) (by : IsMadeBy s name outer body) → IsInstLine s outer name by.inst.line
inst_line s name outer body by =
    record { module_number = by.number; of_module = by.of_module; is_module = by.is_module; inst = by.inst; is_inst = by.is_inst; on_line = refl }

-- the top is a module, so that a cell or a model is inside something
pub cell_inside : {X : Type 0} (s : Sources) (c : ℕ) → body_at s [] ≡ Some (CellBody c) → X
cell_inside s c e = by (module_named s s.top) e
  where
    by : {X : Type 0} (o : Option ℕ) → option_map ModuleBody o ≡ Some (CellBody c) → X
    by None h = cc
    by (Some n) h = cc

pub model_inside : {X : Type 0} (s : Sources) (c : ℕ) → body_at s [] ≡ Some (ModelBody c) → X
model_inside s c e = by (module_named s s.top) e
  where
    by : {X : Type 0} (o : Option ℕ) → option_map ModuleBody o ≡ Some (ModelBody c) → X
    by None h = cc
    by (Some n) h = cc
