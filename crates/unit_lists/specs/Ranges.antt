-- Numbers of supplies that are in range.
use Rattle.std.specs.Prelude.{◌≡◌, ℕ, ◌<◌, List, Some, length, slice_get}
use Rattle.pw_defs.specs.declared.intent.Unit.{Unit as PowerUnit}
use Rattle.pw_defs.specs.declared.supplies.Supply.{Supply}
use Rattle.list_defs.specs.Members.{IsIn}

-- each port of a unit is one of the supplies
abbrev pub ArePortsInRange : List Supply → List PowerUnit → Type 0
ArePortsInRange supplies units = (n : ℕ) (unit : PowerUnit) → slice_get units n ≡ Some unit → (port : ℕ) → IsIn port unit.ports → port < length supplies

-- each input that a switch's on state names is one of the supplies
abbrev pub AreInputsInRange : List Supply → Type 0
AreInputsInRange supplies = (n : ℕ) (supply : Supply) → slice_get supplies n ≡ Some supply → (input : ℕ) → IsIn input supply.inputs → input < length supplies
