-- The lists of values of the roots that each unit sees, and the list that stands for the whole job.
use Rattle.std.specs.Prelude.{◌≡◌, ℕ, ◌<◌, List, Some, map, slice_get}
use Rattle.std.specs.Ordering.{nat_cmp, ordering_then}
use Rattle.std.specs.declared.cmp.Ordering.{Ordering}
use Rattle.pw_defs.specs.Values.{value_cmp}
use Rattle.pw_defs.specs.declared.intent.RootList.{RootList}
use Rattle.pw_defs.specs.declared.intent.Unit.{Unit as PowerUnit}
use Rattle.pw_defs.specs.declared.supplies.Supply.{Supply}
use Rattle.pw_defs.specs.declared.values.Value.{Value}
use Rattle.list_defs.specs.Members.{IsIn}
use Rattle.list_defs.specs.Orders.{AreAllRising}
use Rattle.supply_defs.specs.UnitViews.{IsRootIn}
use Rattle.supply_defs.specs.Values.{IsPortWithin, HasValue}

-- a unit sees its own supplies, and the ports of the outermost soft macros in it
pub data IsSeen (supplies : List Supply) (units : List PowerUnit) (unit supply : ℕ) : Type 0 where
  own : (s : Supply) → slice_get supplies supply ≡ Some s → s.unit ≡ unit → IsSeen supplies units unit supply
  port : (inner : ℕ) → IsPortWithin units unit inner supply → IsSeen supplies units unit supply

-- the root of a supply that the unit sees
pub record IsSeenRoot (supplies : List Supply) (units : List PowerUnit) (unit root : ℕ) : Type 0 where
  pub supply : ℕ
  pub seen : IsSeen supplies units unit supply
  pub is_root : IsRootIn supplies units unit supply root

-- the unit and the root of a list
abbrev pub unit_and_root : RootList → ℕ × ℕ
unit_and_root l = (l.unit, l.root)

-- by unit, then by root
abbrev pub unit_and_root_cmp : ℕ × ℕ → ℕ × ℕ → Ordering
unit_and_root_cmp a b = ordering_then (nat_cmp a.0 b.0) (nat_cmp a.1 b.1)

-- each value that the root may have in the unit, in rising order
abbrev pub AreValues : List Supply → List PowerUnit → ℕ → ℕ → List Value → Type 0
AreValues supplies units unit root = AreAllRising value_cmp (HasValue supplies units unit root)

-- The lists of a network: by unit, then by root, one for each root that the unit sees, with all values of the root there.
pub record AreUnitLists (supplies : List Supply) (units : List PowerUnit) (lists : List RootList) : Type 0 where
  pub roots : AreAllRising unit_and_root_cmp (λ (p : ℕ × ℕ). IsSeenRoot supplies units p.0 p.1) (map unit_and_root lists)
  pub values : (l : RootList) → IsIn l lists → AreValues supplies units l.unit l.root l.values

-- unit a is unit b, or stands further in
pub data IsAtOrInside (units : List PowerUnit) : ℕ → ℕ → Type 0 where
  at : (a : ℕ) → IsAtOrInside units a a
  inside : (a b c : ℕ) (unit : PowerUnit) → slice_get units a ≡ Some unit → unit.outer ≡ Some b → IsAtOrInside units b c → IsAtOrInside units a c

-- each unit's outer one has a smaller number
abbrev pub OutersAreSmaller : List PowerUnit → Type 0
OutersAreSmaller units = (n outer : ℕ) (unit : PowerUnit) → slice_get units n ≡ Some unit → unit.outer ≡ Some outer → outer < n

-- the list of a root in a whole job: that of the outermost unit that has one
pub record IsJobList (units : List PowerUnit) (lists : List RootList) (root : ℕ) (l : RootList) : Type 0 where
  pub listed : IsIn l lists
  pub of_root : l.root ≡ root
  pub outermost : (other : RootList) → IsIn other lists → other.root ≡ root → IsAtOrInside units other.unit l.unit
