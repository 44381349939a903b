-- The values that a root may have, as seen in a unit.
use Rattle.std.specs.Prelude.{◌≡◌, ℕ, List, [], Some, option_map, unwrap_or, slice_get}
use Rattle.pw_defs.specs.declared.intent.Unit.{Unit as PowerUnit}
use Rattle.pw_defs.specs.declared.supplies.Said.{Said}
use Rattle.pw_defs.specs.declared.supplies.Supply.{Supply}
use Rattle.pw_defs.specs.declared.supplies.SupplyKind.TheVariants.{SwitchOut}
use Rattle.pw_defs.specs.declared.values.Value.{Value}
use Rattle.pw_defs.specs.declared.values.Value.TheVariants.{Off, On}
use Rattle.list_defs.specs.Members.{IsIn}
use Rattle.supply_defs.specs.UnitViews.{IsRootIn, kind_at}

-- the values that lines mention on a supply, each with the unit of its line
abbrev pub said_at : List Supply → ℕ → List Said
said_at supplies n = unwrap_or (option_map (λ s. s.said) (slice_get supplies n)) []

-- a line of the unit mentions the value on the supply
abbrev pub IsMentioned : List Supply → ℕ → ℕ → Value → Type 0
IsMentioned supplies unit supply value = IsIn (record { unit = unit; value = value }) (said_at supplies supply)

-- the supply is a switch output of the unit
pub record IsSwitchOutput (supplies : List Supply) (unit supply : ℕ) : Type 0 where
  pub switch : Supply
  pub there : slice_get supplies supply ≡ Some switch
  pub kind : switch.kind ≡ SwitchOut
  pub made_in : switch.unit ≡ unit

-- the supply is an input of the switch that an on state names
abbrev pub IsNamedInput : List Supply → ℕ → ℕ → Type 0
IsNamedInput supplies output input = IsIn input (unwrap_or (option_map (λ s. s.inputs) (slice_get supplies output)) [])

-- the supply is a port of the unit `inner`, an outermost soft macro in the unit
pub record IsPortWithin (units : List PowerUnit) (unit inner port : ℕ) : Type 0 where
  pub macro : PowerUnit
  pub there : slice_get units inner ≡ Some macro
  pub outer : macro.outer ≡ Some unit
  pub listed : IsIn port macro.ports

-- Nothing is given on a root in a unit: it is no switch output, no line of the unit mentions a value on a supply of it,
-- and no port of an outermost soft macro has it.
pub record IsUnstated (supplies : List Supply) (units : List PowerUnit) (unit root : ℕ) : Type 0 where
  pub is_root : IsRootIn supplies units unit root root
  pub unswitched : ¬ (kind_at supplies root ≡ Some SwitchOut)
  pub unmentioned : (supply : ℕ) (value : Value) → IsRootIn supplies units unit supply root → ¬ IsMentioned supplies unit supply value
  pub ungiven : (inner port : ℕ) → IsPortWithin units unit inner port → ¬ IsRootIn supplies units unit port root

-- A root seen in a unit may have the value: it may be off; a line of the unit mentions the value on a supply of the
-- root; a port of an outermost soft macro in the unit has this root and may have the value inside the macro; it is a
-- switch output of the unit, and an input that an on state names may have the value. Where nothing is given on the root,
-- it may be on at 0 V.
pub data HasValue (supplies : List Supply) (units : List PowerUnit) : ℕ → ℕ → Value → Type 0 where
  off : (unit root : ℕ) → IsRootIn supplies units unit root root → HasValue supplies units unit root Off
  mentioned : (unit root supply : ℕ) (value : Value) → IsRootIn supplies units unit supply root → IsMentioned supplies unit supply value
      → HasValue supplies units unit root value
  given : (unit root inner inner_root port : ℕ) (value : Value) → IsPortWithin units unit inner port → IsRootIn supplies units unit port root
      → IsRootIn supplies units inner port inner_root → HasValue supplies units inner inner_root value → HasValue supplies units unit root value
  switched : (unit root input input_root : ℕ) (value : Value) → IsSwitchOutput supplies unit root → IsNamedInput supplies root input
      → IsRootIn supplies units unit input input_root → HasValue supplies units unit input_root value → HasValue supplies units unit root value
  unstated : (unit root : ℕ) → IsUnstated supplies units unit root → HasValue supplies units unit root (On 0)
