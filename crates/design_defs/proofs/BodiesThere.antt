-- What a type stands for, and what is at the end of a way, is one of the modules, cells and models.
use Rattle.std.proofs.Common.{◌≡◌, ℕ, List, [], ◌∷◌, Option, None, Some, option_map, map, refl, ap, subst, ◌∙◌}
use Rattle.std.specs.Option.{option_or}
use Rattle.std.proofs.lemmas.Option.{same_Some}
use Rattle.pw_defs.specs.declared.cells.Cell.{Cell}
use Rattle.pw_defs.specs.declared.design.Body.{Body}
use Rattle.pw_defs.specs.declared.design.Body.TheVariants.{Module as ModuleBody, Cell as CellBody, Model as ModelBody}
use Rattle.pw_defs.specs.declared.model.Model.{Model}
use Rattle.pw_defs.specs.declared.netlist.Module.{Module}
use Rattle.list_defs.specs.Members.{same_name}
use Rattle.list_defs.proofs.NameLemmas.{place_of-within}
use Rattle.design_defs.specs.Hierarchy.{HasBody, Sources, Way, body_at, cell_named, model_named, module_named, type_of, module_at, ports_in}
use Rattle.design_defs.specs.Ports.{port_of_pin}
use Rattle.design_defs.proofs.Lookups.{at_outer}
use Rattle.design_defs.proofs.WalkEnds.{there_within}
use Rattle.std.specs.List.{find}
use Rattle.std.specs.Prelude.{option_and_then}
use Rattle.pw_defs.specs.declared.netlist.Port.{Port}
use Rattle.design_defs.specs.Bits.{port_named, range_in}
use Rattle.design_defs.specs.Places.{net_range}

module _ (s : Sources) where
  model_there : (name : List ℕ) (n : ℕ) → model_named s name ≡ Some n → HasBody s (ModelBody n)
  model_there name n at =
      let there = there_within s.models n (place_of-within (λ (x : Model). same_name name x.module) s.models n at) in
      (there.0.ports, ap (option_map (λ (x : Model). x.ports)) there.1)

  pub module_there : (name : List ℕ) (n : ℕ) → module_named s name ≡ Some n → HasBody s (ModuleBody n)
  module_there name n at =
      let there = there_within s.modules n (place_of-within (λ (x : Module). same_name name x.name) s.modules n at) in
      (there.0.ports, ap (option_map (λ (x : Module). x.ports)) there.1)

  cell_there : (name : List ℕ) (n : ℕ) → cell_named s name ≡ Some n → HasBody s (CellBody n)
  cell_there name n at =
      let there = there_within s.cells.cells n (place_of-within (λ (x : Cell). same_name name x.name) s.cells.cells n at) in
      (map port_of_pin there.0.pins, ap (option_map (λ (x : Cell). map port_of_pin x.pins)) there.1)

  -- what a type stands for is there
  pub type_there : (kind : List ℕ) (b : Body) → type_of s kind ≡ Some b → HasBody s b
  type_there kind b e = by (model_named s kind) refl (module_named s kind) refl (cell_named s kind) refl e
    where
      by : (model : Option ℕ) → model_named s kind ≡ model → (module_ : Option ℕ) → module_named s kind ≡ module_ → (cell : Option ℕ) → cell_named s kind ≡ cell
          → option_or (option_map ModelBody model) (option_or (option_map ModuleBody module_) (option_map CellBody cell)) ≡ Some b → HasBody s b
      by (Some n) at o p q r h = subst (HasBody s) (same_Some (ModelBody n) b h) (model_there kind n at)
      by None at (Some n) p q r h = subst (HasBody s) (same_Some (ModuleBody n) b h) (module_there kind n p)
      by None at None p (Some n) r h = subst (HasBody s) (same_Some (CellBody n) b h) (cell_there kind n r)
      by None at None p None r h = cc

  -- so is what is at the end of a way
  pub body_there : (way : Way) (b : Body) → body_at s way ≡ Some b → HasBody s b
  body_there [] b is = by (module_named s s.top) refl is
    where
      by : (o : Option ℕ) → module_named s s.top ≡ o → option_map ModuleBody o ≡ Some b → HasBody s b
      by None none h = cc
      by (Some n) at h = subst (HasBody s) (same_Some (ModuleBody n) b h) (module_there s.top n at)
  body_there (name ∷ outer) b is = let inside = (at_outer s name outer b is).2 in type_there inside.inst.kind b inside.is_type

-- the range under the name of a port is that of the port
pub found_range : (s : Sources) (body : Body) (ports : List Port) (net : List ℕ) (p : Port) → ports_in s body ≡ Some ports → port_named net ports ≡ Some p
    → range_in s body net ≡ Some p.range
found_range s (ModuleBody n) ports net p are found = by (module_at s n) are
  where
    of_net : (m : Module) → m.ports ≡ ports → net_range m net ≡ Some p.range
    of_net m same = let first : find (λ (q : Port). same_name net q.name) m.ports ≡ Some p = ap (port_named net) same ∙ found in rw first refl

    by : (o : Option Module) → option_map (λ (x : Module). x.ports) o ≡ Some ports → option_and_then (λ (x : Module). net_range x net) o ≡ Some p.range
    by None h = cc
    by (Some m) h = of_net m (same_Some m.ports ports h)
found_range s (CellBody c) ports net p are found =
    ap (λ o. option_map (λ (q : Port). q.range) (option_and_then (port_named net) o)) are ∙ ap (option_map (λ (q : Port). q.range)) found
found_range s (ModelBody c) ports net p are found =
    ap (λ o. option_map (λ (q : Port). q.range) (option_and_then (port_named net) o)) are ∙ ap (option_map (λ (q : Port). q.range)) found
