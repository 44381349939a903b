-- Instances by their numbers, and designs in which their paths tell them apart.
use Rattle.std.specs.Prelude.{◌≡◌, ℕ, List, [], Option, None, Some, unwrap_or, slice_get}
use Rattle.pw_defs.specs.declared.design.Design.{Design}
use Rattle.pw_defs.specs.declared.design.Instance.{Instance}
use Rattle.pw_defs.specs.declared.design.Named.{Named}
use Rattle.pw_defs.specs.declared.design.Named.TheVariants.{Instance as InstanceNamed, Port, PortBit}
use Rattle.design_defs.specs.Joined.{path_of}
use Rattle.design_defs.specs.Sound.{IsSoundDesign}
use Rattle.design_rows.specs.Children.{HasNamesInside}
use Rattle.script_defs.specs.Scopes.{instance_at}

-- The design is sound, whatever is inside an instance has a name there, and the path of the top is empty.
pub record IsHierarchy (d : Design) : Type 0 where
  pub sound : IsSoundDesign d
  pub names : HasNamesInside d
  pub top : path_of d 0 ≡ Some []

-- the path of an instance, by its number
abbrev pub own_path : Design → ℕ → List ℕ
own_path d n = unwrap_or (path_of d n) []

-- the instance that is found at a path has this number
pub record IsNumberAt (d : Design) (path : List ℕ) (n : ℕ) : Type 0 where
  pub inst : Instance
  pub there : slice_get d.insts n ≡ Some inst
  pub found : instance_at d path ≡ Some inst

-- an instance is the one that is found at its path
abbrev pub HasOwnPaths : Design → Type 0
HasOwnPaths d = (n : ℕ) (path : List ℕ) → path_of d n ≡ Some path → IsNumberAt d path n

-- the number of what a name stands for, where it is an instance
abbrev pub named_inst : Option Named → Option ℕ
named_inst None = None
named_inst (Some (InstanceNamed n)) = Some n
named_inst (Some (Port inst port)) = None
named_inst (Some (PortBit b)) = None
