-- Intents that fit their design.
use Rattle.std.specs.Prelude.{◌≡◌, ℕ, ◌<◌, Bool, true, ◌||◌, ◌↔◌, List, Some, None, IfSome, length, slice_get}
use Rattle.std.specs.Ordering.{nat_cmp}
use Rattle.std.specs.declared.cmp.Ordering.{Ordering}
use Rattle.pw_defs.specs.declared.design.Design.{Design}
use Rattle.pw_defs.specs.declared.intent.Export.{Export}
use Rattle.pw_defs.specs.declared.intent.Intent.{Intent}
use Rattle.pw_defs.specs.declared.intent.SupplySet.{SupplySet}
use Rattle.pw_defs.specs.declared.intent.Unit.{Unit as PowerUnit}
use Rattle.pw_defs.specs.declared.strategies.Act.{Act}
use Rattle.pw_defs.specs.declared.strategies.Act.TheVariants.{Iso as Isolate, Shift as ShiftLevel}
use Rattle.pw_defs.specs.declared.strategies.Strategy.{Strategy}
use Rattle.list_defs.specs.Members.{IsIn}
use Rattle.list_defs.specs.Orders.{IsRising}
use Rattle.design_defs.specs.Joined.{parent_of}
use Rattle.supply_defs.specs.Limits.{HasFewRoots, HasFewValues}
use Rattle.supply_defs.specs.Network.{HasNoFeederRing, IsUnfed}
use Rattle.supply_defs.specs.UnitLists.{AreUnitLists}
use Rattle.supply_defs.specs.UnitViews.{in_ports}
use Rattle.domain_defs.specs.Members.{IsModelled}
use Rattle.domain_defs.specs.ModelUnits.{IsUnitAt, HasModelUnits}
use Rattle.domain_defs.specs.Ranges.{HasDesignNumbersInRange, HasSupplyNumbersInRange}

-- units are compared by their instances
abbrev pub unit_cmp : PowerUnit → PowerUnit → Ordering
unit_cmp a b = nat_cmp a.inst b.inst

-- the unit at the nearest instance above this one that has a unit
pub data IsNearestAbove (design : Design) (units : List PowerUnit) : ℕ → ℕ → Type 0 where
  next : (inst parent number : ℕ) → parent_of design inst ≡ Some (Some parent) → IsUnitAt units parent number → IsNearestAbove design units inst number
  higher : (inst parent number : ℕ) → parent_of design inst ≡ Some (Some parent) → ((n : ℕ) → ¬ IsUnitAt units parent n)
      → IsNearestAbove design units parent number → IsNearestAbove design units inst number

-- The first unit is at the top, and it alone has no outer unit. The outer unit of each other one is at the nearest
-- instance above its own that has a unit.
pub record HasUnitsNested (design : Design) (units : List PowerUnit) : Type 0 where
  pub top : IsUnitAt units 0 0
  pub alone : (n : ℕ) (u : PowerUnit) → slice_get units n ≡ Some u → (u.outer ≡ None) ↔ (n ≡ 0)
  pub nearest : (n outer : ℕ) (u : PowerUnit) → slice_get units n ≡ Some u → u.outer ≡ Some outer → IsNearestAbove design units u.inst outer

-- no list of feeders comes back to a supply, and nothing feeds the `in` ports of the top
pub record HasSoundNetwork (intent : Intent) : Type 0 where
  pub no_ring : HasNoFeederRing intent.supplies
  pub top_unfed : (u : PowerUnit) (port : ℕ) → slice_get intent.units 0 ≡ Some u → IsIn port (in_ports intent.supplies u) → IsUnfed intent.supplies port

-- each supply of a set is one of these
pub record IsSetOf (supplies : List ℕ) (set : SupplySet) : Type 0 where
  pub power_in : IsIn set.power supplies
  pub ground_in : IfSome set.ground (λ supply. IsIn supply supplies)

-- each function of a set that the top shows to the outside is an `in` port of the top
abbrev pub HasTopExports : Intent → Type 0
HasTopExports intent =
    (u : PowerUnit) (export : Export) → slice_get intent.units 0 ≡ Some u → IsIn export u.exports → IsSetOf (in_ports intent.supplies u) export.set

-- Each instance has an entry: the number of its domain, and for a modelled instance the number of all domains.
pub record HasEntries (design : Design) (intent : Intent) : Type 0 where
  pub count : length intent.domain_of ≡ length design.insts
  pub modelled : (inst d : ℕ) → slice_get intent.domain_of inst ≡ Some d → IsModelled design inst → d ≡ length intent.domains
  pub member : (inst d : ℕ) → slice_get intent.domain_of inst ≡ Some d → ¬ IsModelled design inst → d < length intent.domains

-- whether a strategy for level shifting, of whatever mode, admits at least one direction
abbrev pub has_direction : Act → Bool
has_direction (Isolate mode supply) = true
has_direction (ShiftLevel mode up down threshold input output) = up || down

-- each strategy for level shifting admits at least one direction
abbrev pub HasDirections : Intent → Type 0
HasDirections intent = (s : Strategy) → IsIn s intent.strategies → has_direction s.act ≡ true

-- there are at most 1,024 roots, and each has at most 64 values
pub record IsWithinLimits (intent : Intent) : Type 0 where
  pub few_roots : HasFewRoots intent.supplies
  pub few_values : HasFewValues intent.supplies intent.units intent.lists

-- An intent is sound for a design where all this holds.
pub record IsSoundIntent (design : Design) (intent : Intent) : Type 0 where
  pub design_numbers : HasDesignNumbersInRange design intent
  pub supply_numbers : HasSupplyNumbersInRange design intent
  pub units_in_order : IsRising unit_cmp intent.units
  pub units_nested : HasUnitsNested design intent.units
  pub network : HasSoundNetwork intent
  pub top_exports : HasTopExports intent
  pub entries : HasEntries design intent
  pub lists : AreUnitLists intent.supplies intent.units intent.lists
  pub model_units : HasModelUnits design intent
  pub directions : HasDirections intent
  pub limits : IsWithinLimits intent
