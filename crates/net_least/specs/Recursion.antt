-- Instances of modules that they are inside, and the walk down to the first of them.
use Rattle.std.specs.Prelude.{◌≡◌, ◌≢◌, ◌⊎◌, ℕ, Bool, true, false, List, [], ◌∷◌, ◌++◌, Option, Some, None, slice_get}
use Rattle.std.specs.declared.cmp.Ordering.TheVariants.{Less}
use Rattle.pw_defs.specs.declared.design.Body.{Body}
use Rattle.pw_defs.specs.declared.design.Body.TheVariants.{Module as ModuleBody, Cell as CellBody, Model as ModelBody}
use Rattle.pw_defs.specs.declared.netlist.Inst.{Inst}
use Rattle.list_defs.specs.Members.{IsIn}
use Rattle.list_defs.specs.Orders.{name_cmp}
use Rattle.design_defs.specs.DesignFaults.{IsAtOrAbove}
use Rattle.design_defs.specs.Hierarchy.{Sources, Way, body_at, type_of, way_cmp}
use Rattle.net_hierarchy.specs.Graph.{Holds, Types, types_of}
use Rattle.net_least.specs.Links.{AreNamed}
use Rattle.net_least.specs.declared.branches.Branch.{Branch}

-- A FREE module holds free modules alone, so that there is no recursion below it.
pub data IsFree (types : Types) : ℕ → Type 0 where
  free : (n : ℕ) → ((k : ℕ) → Holds types n k → IsFree types k) → IsFree types n

-- modules that are marked
abbrev pub IsMarked : List Bool → ℕ → Type 0
IsMarked marks n = slice_get marks n ≡ Some true

-- each module that is marked is free
abbrev pub AreFree : Types → List Bool → Type 0
AreFree types marks = (n : ℕ) → IsMarked marks n → IsFree types n

-- a module holds one of those that are marked, or itself
pub data Closes (types : Types) (marks : List Bool) (n : ℕ) : Type 0 where
  marked : (k : ℕ) → Holds types n k → IsMarked marks k → Closes types marks n
  itself : Holds types n n → Closes types marks n

-- the module at the way holds one that the way leads through
pub record IsClosing (s : Sources) (way : Way) : Type 0 where
  pub n : ℕ
  pub k : ℕ
  pub body : body_at s way ≡ Some (ModuleBody n)
  pub holds : Holds (types_of s) n k
  pub above : IsAtOrAbove s k way

-- no part of the way before its end is so
abbrev pub IsClear : Sources → Way → Type 0
IsClear s way = (front : Way) (name : List ℕ) (outer : Way) → way ≡ front ++ name ∷ outer → IsClosing s outer → ⊥

-- A way so far, with the modules that it leads through marked. Each way at which a module holds one that the way leads
-- through goes on from it, or is before no clear way that does.
pub record IsBegun (s : Sources) (marks : List Bool) (n : ℕ) : Type 0 where
  pub way : Way
  pub body : body_at s way ≡ Some (ModuleBody n)
  pub named : AreNamed way
  pub marked : (k : ℕ) → IsMarked marks k → IsAtOrAbove s k way
  pub all : (k : ℕ) → IsAtOrAbove s k way → IsMarked marks k
  pub clear : IsClear s way
  pub first : (closing : Way) → IsClosing s closing → ((inner : Way) × (closing ≡ inner ++ way))
      ⊎ ((inner : Way) → AreNamed (inner ++ way) → IsClear s (inner ++ way) → way_cmp closing (inner ++ way) ≢ Less)

-- the name of an instance, with a slash behind it unless the way ends there
abbrev pub key : List ℕ → Bool → List ℕ
key name true = name
key name false = name ++ 47 ∷ []

-- a name goes on from another behind a slash
abbrev pub GoesOn : List ℕ → List ℕ → Type 0
GoesOn name longer = (rest : List ℕ) × (longer ≡ name ++ 47 ∷ rest)

-- an instance of a module that isn't known to be free
pub record IsBranch (s : Sources) (free : List Bool) (insts : List Inst) (i : Inst) (k : ℕ) : Type 0 where
  pub one : IsIn i insts
  pub is_type : type_of s i.kind ≡ Some (ModuleBody k)
  pub not_free : IsMarked free k → ⊥

-- whether the way ends at an instance
abbrev pub Ends : Types → List Bool → ℕ → Bool → Type 0
Ends types marks k true = Closes types marks k
Ends types marks k false = Closes types marks k → ⊥

-- the instance through which the walk goes on: none has a lesser key
pub record IsNext (s : Sources) (free marks : List Bool) (insts : List Inst) (k : ℕ) : Type 0 where
  pub i : Inst
  pub ends : Bool
  pub is : IsBranch s free insts i k
  pub has : Ends (types_of s) marks k ends
  pub least : (j : Inst) (l : ℕ) → IsBranch s free insts j l → (b : Bool) × Ends (types_of s) marks l b × (name_cmp (key j.name b) (key i.name ends) ≢ Less)
  pub apart : (j : Inst) (l : ℕ) → IsBranch s free insts j l → (GoesOn i.name j.name → ⊥) × (GoesOn j.name i.name → ⊥)

-- whether an instance of this type is of a marked module, or of this one
abbrev pub ClosesAt : List Bool → ℕ → Option Body → Type 0
ClosesAt marks n None = ⊥
ClosesAt marks n (Some (ModuleBody k)) = (k ≡ n) ⊎ IsMarked marks k
ClosesAt marks n (Some (CellBody k)) = ⊥
ClosesAt marks n (Some (ModelBody k)) = ⊥

-- one of a row is so
abbrev pub RowCloses : List (Option Body) → List Bool → ℕ → Type 0
RowCloses row marks n = (item : Option Body) × IsIn item row × ClosesAt marks n item

-- the module that an instance of a row is of
abbrev pub module_of : Option (Option Body) → Option ℕ
module_of None = None
module_of (Some None) = None
module_of (Some (Some (ModuleBody k))) = Some k
module_of (Some (Some (CellBody k))) = None
module_of (Some (Some (ModelBody k))) = None

abbrev pub module_in : List (Option Body) → ℕ → Option ℕ
module_in row inst = module_of (slice_get row inst)

-- one of the instances, with its key, through which the walk may go on, and none of them has a lesser key
pub record IsFirstBranch (s : Sources) (free marks : List Bool) (insts : List Inst) (b : Branch) : Type 0 where
  pub i : Inst
  pub ends : Bool
  pub is : IsBranch s free insts i b.number
  pub has : Ends (types_of s) marks b.number ends
  pub name : b.name.items ≡ i.name
  pub is_key : b.key.items ≡ key i.name ends
  pub least : (j : Inst) (l : ℕ) → IsBranch s free insts j l → (c : Bool) × Ends (types_of s) marks l c × (name_cmp (key j.name c) (key i.name ends) ≢ Less)

-- the first of them, or that there is none
abbrev pub IsLeastBranch : Sources → List Bool → List Bool → List Inst → Option Branch → Type 0
IsLeastBranch s known marks insts None = (j : Inst) (l : ℕ) → IsBranch s known insts j l → ⊥
IsLeastBranch s known marks insts (Some b) = IsFirstBranch s known marks insts b

-- one instance, with its key, where it is a branch
pub record IsBranchOf (s : Sources) (free marks : List Bool) (i : Inst) (b : Branch) : Type 0 where
  pub ends : Bool
  pub is_type : type_of s i.kind ≡ Some (ModuleBody b.number)
  pub not_free : IsMarked free b.number → ⊥
  pub has : Ends (types_of s) marks b.number ends
  pub name : b.name.items ≡ i.name
  pub is_key : b.key.items ≡ key i.name ends

abbrev pub IsBranchAt : Sources → List Bool → List Bool → Inst → Option Branch → Type 0
IsBranchAt s known marks i None = (l : ℕ) → type_of s i.kind ≡ Some (ModuleBody l) → IsMarked known l
IsBranchAt s known marks i (Some b) = IsBranchOf s known marks i b

-- an instance of a marked module
abbrev pub IsOfMarked : Sources → List Bool → Inst → Type 0
IsOfMarked s marks i = (k : ℕ) × (type_of s i.kind ≡ Some (ModuleBody k)) × IsMarked marks k
