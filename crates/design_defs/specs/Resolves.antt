-- What a name stands for below an instance. Names are looked up as whole joined strings.
use Rattle.std.specs.Prelude.{◌≡◌, ℕ, ◌≤◌, List, Some}
use Rattle.pw_defs.specs.declared.design.Design.{Design}
use Rattle.pw_defs.specs.declared.design.Named.{Named}
use Rattle.pw_defs.specs.declared.design.Named.TheVariants.{Instance, Port, PortBit}
use Rattle.design_defs.specs.Alike.{IsAtOrBelow}
use Rattle.design_defs.specs.Joined.{HasJoinedName, path_of, parent_of}
use Rattle.design_defs.specs.Names.{joined}

-- Below an instance stand the instances inside it, at any depth, and the ports and port bits of these and of itself.
abbrev pub StandsBelow : Design → ℕ → Named → Type 0
StandsBelow d scope (Instance n) = (p : ℕ) × (parent_of d n ≡ Some (Some p)) × IsAtOrBelow d scope p
StandsBelow d scope (Port inst port) = IsAtOrBelow d scope inst
StandsBelow d scope (PortBit b) = IsAtOrBelow d scope b.inst

-- it stands below the instance, and its joined name is this name behind the path of the instance
pub record HasNameBelow (d : Design) (scope : ℕ) (name : List ℕ) (x : Named) : Type 0 where
  pub below : StandsBelow d scope x
  pub path : List ℕ
  pub path_of_scope : path_of d scope ≡ Some path
  pub named : HasJoinedName d x (joined path name)

-- instances are looked for first, then ports, then bits of vector ports
abbrev pub kind_of : Named → ℕ
kind_of (Instance n) = 0
kind_of (Port inst port) = 1
kind_of (PortBit b) = 2

-- the name stands for x: x has it, and nothing of a kind that is looked for earlier does
pub record Resolves (d : Design) (scope : ℕ) (name : List ℕ) (x : Named) : Type 0 where
  pub has_name : HasNameBelow d scope name x
  pub first : (y : Named) → HasNameBelow d scope name y → kind_of x ≤ kind_of y

-- nothing below the instance has the name
abbrev pub ResolvesToNothing : Design → ℕ → List ℕ → Type 0
ResolvesToNothing d scope name = (x : Named) → HasNameBelow d scope name x → ⊥
