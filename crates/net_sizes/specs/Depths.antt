-- How deep the hierarchy is below modules.
use Rattle.std.specs.Prelude.{◌≡◌, ◌⊎◌, ◌≤◌, ◌<◌, ◌+◌, ℕ, List, Option, Some, None, length, min, slice_index}
use Rattle.pw_defs.specs.declared.design.Body.{Body}
use Rattle.pw_defs.specs.declared.design.Body.TheVariants.{Module as ModuleBody, Cell as CellBody, Model as ModelBody}
use Rattle.list_defs.specs.Members.{IsIn}
use Rattle.design_defs.specs.Hierarchy.{IsInstance, Sources, Way}
use Rattle.net_hierarchy.specs.Below.{body_below}

-- how deep it is at an instance, the instance among it
abbrev pub depth_in : List ℕ → ℕ → Option Body → ℕ
depth_in depths most None = 0
depth_in depths most (Some (ModuleBody n)) = min most (slice_index depths n + 1)
depth_in depths most (Some (CellBody n)) = min most 1
depth_in depths most (Some (ModelBody n)) = min most 1

-- the greatest of the numbers of a list, and 0 of none
pub record IsDeepest {X : Type 0} (number : X → ℕ) (xs : List X) (depth : ℕ) : Type 0 where
  pub bound : (x : X) → IsIn x xs → number x ≤ depth
  pub one : (depth ≡ 0) ⊎ ((x : X) × IsIn x xs × (number x ≡ depth))

-- the longest way below a body has so many instances
pub record HasDepth (s : Sources) (body : Body) (depth : ℕ) : Type 0 where
  pub longest : Way
  pub end : Body
  pub there : body_below s body longest ≡ Some end
  pub long : length longest ≡ depth
  pub bound : (way : Way) (other : Body) → body_below s body way ≡ Some other → length way ≤ depth

-- the number of a module is the depth below it, where it is less than so many
pub record IsDeep (s : Sources) (most : ℕ) (depths : List ℕ) (n : ℕ) : Type 0 where
  pub depth : ℕ
  pub has : HasDepth s (ModuleBody n) depth
  pub number : slice_index depths n ≡ min most depth

abbrev pub AreDeep : Sources → ℕ → List ℕ → List ℕ → Type 0
AreDeep s most depths modules = (n : ℕ) → IsIn n modules → IsDeep s most depths n

-- an instance is inside more than so many
abbrev pub HasDeeper : Sources → ℕ → Type 0
HasDeeper s limit = (way : Way) × IsInstance s way × (limit < length way)
