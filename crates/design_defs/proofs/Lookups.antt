-- What look-ups by name find.
use Rattle.std.proofs.Common.{◌≡◌, ◌≢◌, ℕ, Bool, true, false, cond, not, ◌&&◌, List, ◌∷◌, Option, Some, None, option_map, option_and_then, refl, subst}
use Rattle.std.specs.List.{find, flat_map, list_any}
use Rattle.std.specs.Option.{option_or}
use Rattle.pw_defs.specs.declared.design.Body.{Body}
use Rattle.pw_defs.specs.declared.design.Body.TheVariants.{Module as ModuleBody, Cell as CellBody, Model as ModelBody}
use Rattle.pw_defs.specs.declared.netlist.Inst.{Inst}
use Rattle.pw_defs.specs.declared.netlist.Module.{Module}
use Rattle.pw_defs.specs.declared.netlist.Net.{Net}
use Rattle.pw_defs.specs.declared.netlist.Port.{Port}
use Rattle.list_defs.specs.Members.{IsIn, same_name}
use Rattle.list_defs.proofs.NameLemmas.{IsIn-list_any, same_name-equal, same_name-itself}
use Rattle.list_defs.proofs.Rising.{found_in}
use Rattle.design_defs.specs.Bits.{Spot, range_in, range_of}
use Rattle.design_defs.specs.Hierarchy.{Sources, Way, body_at, body_inside, inst_named, module_at, type_of}
use Rattle.design_defs.specs.Places.{exprs_in, is_implicit, is_instance_name, names_alone, net_range}

-- the line of an instance is one of the module's, with that name
pub inst_found : (m : Module) (name : List ℕ) (i : Inst) → inst_named m name ≡ Some i → IsIn i m.insts × (name ≡ i.name)
inst_found m name i e = let found = found_in (λ (x : Inst). same_name name x.name) m.insts i e in (found.0, same_name-equal name i.name found.1)

-- how an instance comes to be inside another
pub record IsInsideBy (s : Sources) (name : List ℕ) (outer body : Body) : Type 0 where
  pub number : ℕ
  pub of_module : Module
  pub inst : Inst
  pub is_outer : outer ≡ ModuleBody number
  pub is_module : module_at s number ≡ Some of_module
  pub is_line : IsIn inst of_module.insts
  pub is_name : name ≡ inst.name
  pub is_type : type_of s inst.kind ≡ Some body

pub inside_by : (s : Sources) (name : List ℕ) (outer body : Body) → body_inside s name outer ≡ Some body → IsInsideBy s name outer body
inside_by s name (CellBody c) body e = cc
inside_by s name (ModelBody m) body e = cc
inside_by s name (ModuleBody n) body e = of_module (module_at s n) refl e
  where
    of_line : (m : Module) → module_at s n ≡ Some m → (o : Option Inst) → inst_named m name ≡ o
        → option_and_then (λ (i : Inst). type_of s i.kind) o ≡ Some body
        → IsInsideBy s name (ModuleBody n) body
    of_line m there None none h = cc
    of_line m there (Some i) found h =
        let line = inst_found m name i found in
        record { number = n; of_module = m; inst = i; is_outer = refl; is_module = there; is_line = line.0; is_name = line.1; is_type = h }

    of_module : (o : Option Module) → module_at s n ≡ o → option_and_then (λ (i : Inst). type_of s i.kind)
        (option_and_then (λ x. inst_named x name) o) ≡ Some body
        → IsInsideBy s name (ModuleBody n) body
    of_module None none h = cc
    of_module (Some m) there h = of_line m there (inst_named m name) refl h

-- what is at the end of a way is inside what is at the end of the outer way
pub at_outer : (s : Sources) (name : List ℕ) (outer : Way) (body : Body) → body_at s (name ∷ outer) ≡ Some body
    → (b : Body) × (body_at s outer ≡ Some b) × IsInsideBy s name b body
at_outer s name outer body e = of_body (body_at s outer) refl e
  where
    of_body : (o : Option Body) → body_at s outer ≡ o → option_and_then (body_inside s name) o ≡ Some body
        → (b : Body) × (body_at s outer ≡ Some b) × IsInsideBy s name b body
    of_body None none h = cc
    of_body (Some b) there h = (b, there, inside_by s name b body h)

-- the net is a port of the module, or a wire that it declares, or one that it doesn't
pub data IsNetBy (m : Module) (net : List ℕ) (range : Option (ℕ × ℕ)) : Type 0 where
  by_port : (p : Port) → IsIn p m.ports → net ≡ p.name → range ≡ p.range → IsNetBy m net range
  by_wire : (n : Net) → IsIn n m.nets → net ≡ n.name → range ≡ n.range → IsNetBy m net range
  by_use : IsIn net (flat_map names_alone (exprs_in m)) → range ≡ None → IsNetBy m net range

pub net_by : (m : Module) (net : List ℕ) (range : Option (ℕ × ℕ)) → net_range m net ≡ Some range → IsNetBy m net range
net_by m net range e = of_port (find (λ (p : Port). same_name net p.name) m.ports) refl e
  where
    implicit : Option (Option (ℕ × ℕ))
    implicit = cond (is_implicit m net) (Some None) None

    of_use : (b : Bool) → list_any (same_name net) (flat_map names_alone (exprs_in m)) ≡ b → (i : Bool) → is_instance_name m net ≡ i
        → cond (not i && b) (Some None) None ≡ Some range → IsNetBy m net range
    of_use true there false none h = IsNetBy.by_use (IsIn-list_any net (flat_map names_alone (exprs_in m)) there) cc
    of_use true there true some h = cc
    of_use false there false none h = cc
    of_use false there true some h = cc

    of_wire : (o : Option Net) → find (λ (n : Net). same_name net n.name) m.nets ≡ o
        → option_or (option_map (λ (n : Net). n.range) o) implicit ≡ Some range → IsNetBy m net range
    of_wire None none h = of_use (list_any (same_name net) (flat_map names_alone (exprs_in m))) refl (is_instance_name m net) refl h
    of_wire (Some n) found h =
        let there = found_in (λ (x : Net). same_name net x.name) m.nets n found in
        IsNetBy.by_wire n there.0 (same_name-equal net n.name there.1) cc

    of_port : (o : Option Port) → find (λ (p : Port). same_name net p.name) m.ports ≡ o
        → option_or (option_or (option_map (λ (p : Port). p.range) o)
        (option_map (λ (n : Net). n.range) (find (λ (n : Net). same_name net n.name) m.nets))) implicit ≡ Some range
        → IsNetBy m net range
    of_port None none h = of_wire (find (λ (n : Net). same_name net n.name) m.nets) refl h
    of_port (Some p) found h =
        let there = found_in (λ (x : Port). same_name net x.name) m.ports p found in
        IsNetBy.by_port p there.0 (same_name-equal net p.name there.1) cc

-- a bit that has a range is of a net of the body that is there
pub body_of_spot : (s : Sources) (x : Spot) (range : Option (ℕ × ℕ)) → range_of s x ≡ Some range
    → (b : Body) × (body_at s x.way ≡ Some b) × (range_in s b x.net ≡ Some range)
body_of_spot s x range e = of_body (body_at s x.way) refl e
  where
    of_body : (o : Option Body) → body_at s x.way ≡ o → option_and_then (λ body. range_in s body x.net) o ≡ Some range
        → (b : Body) × (body_at s x.way ≡ Some b) × (range_in s b x.net ≡ Some range)
    of_body None none h = cc
    of_body (Some b) there h = (b, there, h)

-- names that a comparison tells apart aren't the same
pub other_name : (a b : List ℕ) → same_name a b ≡ false → a ≢ b
other_name a b differ same = let itself : same_name a b ≡ true = subst (λ c. same_name a c ≡ true) same (same_name-itself a) in cc
