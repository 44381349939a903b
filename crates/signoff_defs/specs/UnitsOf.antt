-- The unit of a chain.
use Rattle.std.specs.Prelude.{◌≡◌, ℕ, ◌≤◌, List, Some, slice_get}
use Rattle.std.specs.List.{AllByRecursion}
use Rattle.pw_defs.specs.declared.design.Design.{Design}
use Rattle.pw_defs.specs.declared.intent.Intent.{Intent}
use Rattle.pw_defs.specs.declared.intent.Unit.{Unit as PowerUnit}
use Rattle.design_defs.specs.Alike.{IsAtOrBelow}
use Rattle.signoff_defs.specs.WalkParts.{owner_of}

-- the owner of a bit is an instance, or is below it
pub record IsOwnedWithin (d : Design) (inst bit : ℕ) : Type 0 where
  pub owner : ℕ
  pub owned : owner_of d bit ≡ Some owner
  pub within : IsAtOrBelow d inst owner

-- a unit holds all these bits
pub record HoldsBits (d : Design) (i : Intent) (bits : List ℕ) (unit : ℕ) : Type 0 where
  pub this : PowerUnit
  pub there : slice_get i.units unit ≡ Some this
  pub held : AllByRecursion (IsOwnedWithin d this.inst) bits

-- The innermost unit that holds all these bits. Units stand in order of instances, so that it is the last one.
pub record IsUnitOf (d : Design) (i : Intent) (bits : List ℕ) (unit : ℕ) : Type 0 where
  pub holds : HoldsBits d i bits unit
  pub innermost : (other : ℕ) → HoldsBits d i bits other → other ≤ unit
