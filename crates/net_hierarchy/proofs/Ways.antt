-- Ways through the hierarchy go along the graph of modules.
use Rattle.std.proofs.Common.{◌≡◌, ℕ, Bool, true, false, not, cond, ◌⊎◌, List, [], ◌∷◌, Option, None, Some, option_map, option_and_then, map, slice_get, inl, inr, refl, sym, ap, ◌∙◌, subst}
use Rattle.std.specs.List.{find, list_any}
use Rattle.std.proofs.lemmas.Bool.{false≢true, and_parts}
use Rattle.std.proofs.lemmas.Option.{same_Some, slice_get-map}
use Rattle.list_defs.specs.Members.{IsIn, all_differ, same_name}
use Rattle.list_defs.proofs.Members.{IsIn-map, IsIn-map_from}
use Rattle.list_defs.proofs.NameLemmas.{list_any-IsIn, same_name-equal, same_name-itself}
use Rattle.pw_defs.specs.declared.design.Body.{Body}
use Rattle.pw_defs.specs.declared.design.Body.TheVariants.{Module as ModuleBody}
use Rattle.pw_defs.specs.declared.netlist.Inst.{Inst}
use Rattle.pw_defs.specs.declared.netlist.Module.{Module}
use Rattle.design_defs.specs.DesignFaults.{IsAtOrAbove}
use Rattle.design_defs.specs.Hierarchy.{Sources, Way, body_at, body_inside, inst_named, module_at, module_named, type_of}
use Rattle.net_hierarchy.specs.Graph.{AreInstsApart, Holds, Leads, types_of}

-- of instances of which no two have one name, each is the one of its name
pub find_own : (xs : List Inst) (i : Inst) → all_differ same_name (map (λ (x : Inst). x.name) xs) ≡ true → IsIn i xs → find (λ (x : Inst). same_name i.name x.name) xs ≡ Some i
find_own [] i apart there = absurd there
find_own (x ∷ xs) i apart there = by (and_parts (not (list_any (same_name x.name) (map (λ (y : Inst). y.name) xs))) (all_differ same_name (map (λ (y : Inst). y.name) xs)) apart) (find_own xs i) there
  where
    by : (not (list_any (same_name x.name) (map (λ (y : Inst). y.name) xs)) ≡ true) × (all_differ same_name (map (λ (y : Inst). y.name) xs) ≡ true)
        → (all_differ same_name (map (λ (y : Inst). y.name) xs) ≡ true → IsIn i xs → find (λ (y : Inst). same_name i.name y.name) xs ≡ Some i)
        → (i ≡ x) ⊎ IsIn i xs → find (λ (y : Inst). same_name i.name y.name) (x ∷ xs) ≡ Some i
    by both rest (inl e) = rw (ap (λ (y : Inst). same_name i.name y.name) (sym e) ∙ same_name-itself i.name) (ap Some (sym e))
    by both rest (inr later) = other (same_name i.name x.name) refl
      where
        other : (b : Bool) → same_name i.name x.name ≡ b → cond b (Some x) (find (λ (y : Inst). same_name i.name y.name) xs) ≡ Some i
        other true same =
            let name : i.name ≡ x.name = same_name-equal i.name x.name same in
            let in_rest : IsIn x.name (map (λ (y : Inst). y.name) xs) = subst (λ n. IsIn n (map (λ (y : Inst). y.name) xs)) name (IsIn-map (λ (y : Inst). y.name) i xs later) in
            let again = list_any-IsIn x.name (map (λ (y : Inst). y.name) xs) in_rest in
            absurd (false≢true (sym (ap not again) ∙ both.0))
        other false differ = rest both.1 later

-- the line that makes a module hold another
pub record IsLine (s : Sources) (n : ℕ) (type : Option Body) : Type 0 where
  pub m : Module
  pub i : Inst
  pub is_module : module_at s n ≡ Some m
  pub one : IsIn i m.insts
  pub is_type : type_of s i.kind ≡ type

pub line_of_row : (s : Sources) (n : ℕ) (row : List (Option Body)) (type : Option Body) → slice_get (types_of s) n ≡ Some row → IsIn type row → IsLine s n type
line_of_row s n row type is one = by (module_at s n) refl (sym (slice_get-map row_of s.modules n) ∙ is)
  where
    row_of : Module → List (Option Body)
    row_of m = map (λ (i : Inst). type_of s i.kind) m.insts

    by : (o : Option Module) → module_at s n ≡ o → option_map row_of o ≡ Some row → IsLine s n type
    by None none e = cc
    by (Some m) there e =
        let found = IsIn-map_from (λ (i : Inst). type_of s i.kind) type m.insts (subst (IsIn type) (sym (same_Some (row_of m) row e)) one) in
        record { m = m; i = found.0; is_module = there; one = found.1; is_type = sym found.2 }

pub row_of_line : (s : Sources) (n : ℕ) (m : Module) (i : Inst) → module_at s n ≡ Some m → IsIn i m.insts
    → (row : List (Option Body)) × (slice_get (types_of s) n ≡ Some row) × IsIn (type_of s i.kind) row
row_of_line s n m i there one = (
  map (λ (x : Inst). type_of s x.kind) m.insts,
  slice_get-map (λ (x : Module). map (λ (y : Inst). type_of s y.kind) x.insts) s.modules n ∙ ap (option_map (λ (x : Module). map (λ (y : Inst). type_of s y.kind) x.insts)) there,
  IsIn-map (λ (x : Inst). type_of s x.kind) i m.insts one,
)

pub holds_by : (s : Sources) (n k : ℕ) (m : Module) (i : Inst) → module_at s n ≡ Some m → IsIn i m.insts → type_of s i.kind ≡ Some (ModuleBody k) → Holds (types_of s) n k
holds_by s n k m i there one type =
    let row = row_of_line s n m i there one in
    record { row = row.0; is_row = row.1; one = subst (λ t. IsIn t row.0) type row.2 }

-- what a module has under the name of one of its instances
pub inside_of_line : (s : Sources) → AreInstsApart s → (n : ℕ) (type : Option Body) (line : IsLine s n type) → body_inside s line.i.name (ModuleBody n) ≡ type
inside_of_line s apart n type line =
    let own : inst_named line.m line.i.name ≡ Some line.i = find_own line.m.insts line.i (apart n line.m line.is_module) line.one in
    ap (λ o. option_and_then (λ (i : Inst). type_of s i.kind) (option_and_then (λ x. inst_named x line.i.name) o)) line.is_module
    ∙ ap (option_and_then (λ (i : Inst). type_of s i.kind)) own ∙ line.is_type

-- an instance further down, inside all that this one is inside
pub record IsBelow (s : Sources) (way : Way) (k : ℕ) : Type 0 where
  pub lower : Way
  pub body : body_at s lower ≡ Some (ModuleBody k)
  pub inside : (j : ℕ) → IsAtOrAbove s j way → IsAtOrAbove s j lower

pub way_down : (s : Sources) → AreInstsApart s → (n k : ℕ) → Leads (types_of s) n k → (way : Way) → body_at s way ≡ Some (ModuleBody n) → IsBelow s way k
way_down s apart n _ (Leads.here _) way body = record { lower = way; body = body; inside = λ j at. at }
way_down s apart n k (Leads.further _ m _ leads holds) way body =
    let outer = way_down s apart n m leads way body in
    let line = line_of_row s m holds.row (Some (ModuleBody k)) holds.is_row holds.one in
    record {
      lower = line.i.name ∷ outer.lower;
      body = ap (option_and_then (body_inside s line.i.name)) outer.body ∙ inside_of_line s apart m (Some (ModuleBody k)) line;
      inside = λ j at. IsAtOrAbove.above line.i.name outer.lower (outer.inside j at);
    }

-- the top at the empty way
pub top_at : (s : Sources) (top : ℕ) → module_named s s.top ≡ Some top → body_at s [] ≡ Some (ModuleBody top)
top_at s top named = ap (option_map ModuleBody) named
