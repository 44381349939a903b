-- The least way below a module to one of some modules.
use Rattle.std.specs.Prelude.{◌≡◌, ◌≢◌, ℕ, List, [], ◌∷◌, ◌++◌, Option, Some, None, length, slice_get}
use Rattle.std.specs.declared.cmp.Ordering.TheVariants.{Less}
use Rattle.pw_defs.specs.declared.design.Body.{Body}
use Rattle.pw_defs.specs.declared.design.Body.TheVariants.{Module as ModuleBody, Cell as CellBody, Model as ModelBody}
use Rattle.pw_defs.specs.declared.netlist.Inst.{Inst}
use Rattle.list_defs.specs.Members.{IsIn}
use Rattle.design_defs.specs.Hierarchy.{Sources, Way, type_of, way_cmp}
use Rattle.net_hierarchy.specs.Below.{body_below}
use Rattle.net_hierarchy.specs.Graph.{Holds, types_of}
use Rattle.net_least.specs.Links.{IsWay}
use Rattle.net_least.specs.declared.links.Link.{Link}
use Rattle.net_least.specs.declared.nearest.Near.{Near}
use Rattle.net_least.specs.declared.own.OwnFault.{OwnFault}

-- a module has a fault of its own
pub record HasMark (own : List (Option OwnFault)) (n : ℕ) : Type 0 where
  pub mark : OwnFault
  pub is : slice_get own n ≡ Some (Some mark)

-- at a way below a module is one that has a fault of its own
pub record IsWayTo (s : Sources) (own : List (Option OwnFault)) (n : ℕ) (way : Way) (number : ℕ) : Type 0 where
  pub there : body_below s (ModuleBody n) way ≡ Some (ModuleBody number)
  pub mark : HasMark own number

-- such a way begins with one of these instances
pub record IsWayBy (s : Sources) (own : List (Option OwnFault)) (insts : List Inst) (way : Way) (number : ℕ) : Type 0 where
  pub i : Inst
  pub k : ℕ
  pub inner : Way
  pub one : IsIn i insts
  pub is_type : type_of s i.kind ≡ Some (ModuleBody k)
  pub is_way : way ≡ inner ++ i.name ∷ []
  pub at : IsWayTo s own k inner number

-- no way is so
abbrev pub AreNone : (Way → ℕ → Type 0) → Type 0
AreNone P = (way : Way) (number : ℕ) → P way number → ⊥

-- a way is so, and none before it
pub record IsLeastWay (P : Way → ℕ → Type 0) (way : Way) (number : ℕ) : Type 0 where
  pub holds : P way number
  pub least : (other : Way) (k : ℕ) → P other k → way_cmp other way ≢ Less

-- the way by links is the least
pub record IsNearest (symbols : List (List ℕ)) (links : List Link) (P : Way → ℕ → Type 0) (near : Near) : Type 0 where
  pub way : Way
  pub goes : IsWay symbols links near.at way
  pub least : IsLeastWay P way near.end

-- the least way, where there is one
abbrev pub IsNear : List (List ℕ) → List Link → (Way → ℕ → Type 0) → Option Near → Type 0
IsNear symbols links P None = AreNone P
IsNear symbols links P (Some near) = IsNearest symbols links P near

-- what is known of what an instance is an instance of
abbrev pub IsNearBelow : Sources → List (Option OwnFault) → List (List ℕ) → List Link → Inst → Option Near → Type 0
IsNearBelow s own symbols links i None = (k : ℕ) → type_of s i.kind ≡ Some (ModuleBody k) → AreNone (IsWayTo s own k)
IsNearBelow s own symbols links i (Some near) = (k : ℕ) × (type_of s i.kind ≡ Some (ModuleBody k)) × IsNearest symbols links (IsWayTo s own k) near

-- what is known of a module
abbrev pub or_none : Option (Option Near) → Option Near
or_none None = None
or_none (Some near) = near

abbrev pub near_at : List (Option Near) → ℕ → Option Near
near_at nears n = or_none (slice_get nears n)

-- what is known of what an instance is an instance of
abbrev pub near_of : List (Option Near) → Option (Option Body) → Option Near
near_of nears None = None
near_of nears (Some None) = None
near_of nears (Some (Some (ModuleBody n))) = near_at nears n
near_of nears (Some (Some (CellBody n))) = None
near_of nears (Some (Some (ModelBody n))) = None

abbrev pub near_below : List (Option Near) → List (Option Body) → ℕ → Option Near
near_below nears row inst = near_of nears (slice_get row inst)

-- what is known of each of the modules that a module holds
abbrev pub AreHeldNear : Sources → List (Option OwnFault) → List (List ℕ) → List Link → List (Option Near) → ℕ → Type 0
AreHeldNear s own symbols links nears n = (k : ℕ) → Holds (types_of s) n k → IsNear symbols links (IsWayTo s own k) (near_at nears k)

-- what is known of each of some modules, with a place for each module
pub record AreAllNear (s : Sources) (own : List (Option OwnFault)) (symbols : List (List ℕ)) (links : List Link) (nears : List (Option Near)) (modules : List ℕ) : Type 0 where
  pub count : length nears ≡ length s.modules
  pub each : (n : ℕ) → IsIn n modules → IsNear symbols links (IsWayTo s own n) (near_at nears n)

-- the module where the least way ends, or that there is none
abbrev pub IsEnd : (Way → ℕ → Type 0) → Option ℕ → Type 0
IsEnd P None = AreNone P
IsEnd P (Some number) = (way : Way) × IsLeastWay P way number
