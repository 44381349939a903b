-- Supplies in a state of an order of roots: each has the value at the place of its root.
use Rattle.std.specs.Prelude.{◌≡◌, ℕ, List, [], Some, length, slice_get, slice_index}
use Rattle.pw_defs.specs.declared.conditions.Cond.{Cond}
use Rattle.pw_defs.specs.declared.conditions.Cond.TheOpen.{Cond-F}
use Rattle.pw_defs.specs.declared.conditions.Cond.TheFolds.{fold-Cond}
use Rattle.pw_defs.specs.declared.conditions.Cond.TheVariants.{True, Is, On, Apart, Not, All, Any}
use Rattle.pw_defs.specs.declared.supplies.Supply.{Supply}
use Rattle.pw_defs.specs.declared.values.Value.{Value}
use Rattle.supply_defs.specs.Network.{IsRoot}
use Rattle.supply_defs.specs.States.{value_in}

-- the place of each supply in an order of roots: that of its root
pub record ArePlaces (supplies : List Supply) (order places : List ℕ) : Type 0 where
  pub count : length places ≡ length supplies
  pub each : (supply root : ℕ) → IsRoot supplies [] supply root → slice_get order (slice_index places supply) ≡ Some root

-- the value of a supply in a state of an order of roots: that at the place of its root
abbrev pub value_at : List ℕ → List Value → ℕ → Value
value_at places state supply = value_in state (slice_index places supply)

-- one level of: a condition that speaks of other supplies
abbrev pub renamed_at : (ℕ → ℕ) → Cond-F Cond → Cond
renamed_at name Cond-F.True = True
renamed_at name (Cond-F.Is supply v) = Is (name supply) v
renamed_at name (Cond-F.On supply) = On (name supply)
renamed_at name (Cond-F.Apart low high above) = Apart (name low) (name high) above
renamed_at name (Cond-F.Not part) = Not part
renamed_at name (Cond-F.All parts) = All parts
renamed_at name (Cond-F.Any parts) = Any parts

-- the condition that speaks of another supply in the place of each
unfoldable pub renamed : (ℕ → ℕ) → Cond → Cond
renamed name = fold-Cond Cond (renamed_at name)

-- the condition of the places in an order of roots, in place of the supplies
abbrev pub placed : List ℕ → Cond → Cond
placed places = renamed (slice_index places)
