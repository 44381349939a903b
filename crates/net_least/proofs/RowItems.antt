-- What stands in the row of a module is the type of the instance at that place.
use Rattle.std.proofs.Common.{◌≡◌, ℕ, ◌<◌, List, Option, None, Some, option_map, map, slice_get, slice_index_or, length, refl, sym, ap, ◌∙◌, subst}
use Rattle.std.proofs.lemmas.Option.{slice_get-get_or, slice_get-map}
use Rattle.list_defs.specs.Members.{IsIn}
use Rattle.module_rows.specs.Growth.{no_module}
use Rattle.pw_defs.specs.declared.design.Body.{Body}
use Rattle.pw_defs.specs.declared.design.Body.TheVariants.{Module as ModuleBody, Cell as CellBody, Model as ModelBody}
use Rattle.pw_defs.specs.declared.netlist.Inst.{Inst}
use Rattle.pw_defs.specs.declared.netlist.Module.{Module}
use Rattle.design_defs.specs.Hierarchy.{Sources, module_at, type_of}
use Rattle.net_hierarchy.specs.Graph.{Types, types_of}
use Rattle.net_hierarchy.proofs.Ways.{holds_by}
use Rattle.net_least.specs.Nearest.{AreHeldNear, AreNone, IsNear, IsNearBelow, IsWayTo, near_at, near_below, near_of}
use Rattle.net_least.specs.declared.links.Link.{Link}
use Rattle.net_least.specs.declared.nearest.Near.{Near}
use Rattle.net_least.specs.declared.own.OwnFault.{OwnFault}

pub item_of_row : (s : Sources) (insts : List Inst) (row : List (Option Body)) → row ≡ map (λ (i : Inst). type_of s i.kind) insts → (n : ℕ) (i : Inst) → slice_get insts n ≡ Some i
    → slice_get row n ≡ Some (type_of s i.kind)
item_of_row s insts row is n i at =
    ap (λ r. slice_get r n) is ∙ slice_get-map (λ (x : Inst). type_of s x.kind) insts n ∙ ap (option_map (λ (x : Inst). type_of s x.kind)) at

-- the module of a number that there is, and its row
pub module_there : (s : Sources) (modules : List Module) (n : ℕ) → s.modules ≡ modules → n < length modules → module_at s n ≡ Some (slice_index_or modules n no_module)
module_there s modules n is within = ap (λ ms. slice_get ms n) is ∙ slice_get-get_or modules n no_module within

pub row_there : (s : Sources) (types : Types) (modules : List Module) (n : ℕ) → types ≡ types_of s → s.modules ≡ modules → n < length modules
    → slice_get types n ≡ Some (map (λ (i : Inst). type_of s i.kind) (slice_index_or modules n no_module).insts)
row_there s types modules n types_are is within =
    ap (λ t. slice_get t n) types_are ∙ slice_get-map (λ (x : Module). map (λ (i : Inst). type_of s i.kind) x.insts) s.modules n
    ∙ ap (option_map (λ (x : Module). map (λ (i : Inst). type_of s i.kind) x.insts)) (module_there s modules n is within)

pub near_of_inst : (s : Sources) (own : List (Option OwnFault)) (symbols : List (List ℕ)) (links : List Link) (nears : List (Option Near)) (holder : ℕ) (m : Module) (i : Inst)
    → module_at s holder ≡ Some m → IsIn i m.insts → AreHeldNear s own symbols links nears holder → (row : List (Option Body)) (n : ℕ) → slice_get row n ≡ Some (type_of s i.kind)
    → IsNearBelow s own symbols links i (near_below nears row n)
near_of_inst s own symbols links nears holder m i is one held row n at =
    subst (λ o. IsNearBelow s own symbols links i (near_of nears o)) (sym at) (by (type_of s i.kind) refl)
  where
    of_module : (k : ℕ) → type_of s i.kind ≡ Some (ModuleBody k) → (o : Option Near) → IsNear symbols links (IsWayTo s own k) o → IsNearBelow s own symbols links i o
    of_module k type None none = λ j other. let same : Some (ModuleBody k) ≡ Some (ModuleBody j) = sym type ∙ other in
        let number : k ≡ j = cc in subst (λ q. AreNone (IsWayTo s own q)) number none
    of_module k type (Some near) known = (k, type, known)

    by : (o : Option Body) → type_of s i.kind ≡ o → IsNearBelow s own symbols links i (near_of nears (Some o))
    by None e = λ k type. let never : None ≡ Some (ModuleBody k) = sym e ∙ type in cc
    by (Some (ModuleBody k)) e = of_module k e (near_at nears k) (held k (holds_by s holder k m i is one e))
    by (Some (CellBody c)) e = λ k type. let never : Some (CellBody c) ≡ Some (ModuleBody k) = sym e ∙ type in cc
    by (Some (ModelBody c)) e = λ k type. let never : Some (ModelBody c) ≡ Some (ModuleBody k) = sym e ∙ type in cc
