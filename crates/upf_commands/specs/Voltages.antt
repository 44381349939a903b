-- Voltages as scripts write them: one, two or three numbers.
use Rattle.std.specs.Prelude.{ℕ, ◌+◌, ◌/◌, ◌≤◌, List, [], ◌∷◌, codes}
use Rattle.pw_defs.specs.declared.values.Value.{Value}
use Rattle.pw_defs.specs.declared.values.Value.TheVariants.{Off, On}
use Rattle.text_defs.specs.Volts.{IsVolts}

-- The words stand for v microvolts: one voltage; two, for their middle rounded down; or three, for the second. The last
-- is not below the first.
pub data IsVoltage : List (List ℕ) → ℕ → Type 0 where
  one : (word : List ℕ) (v : ℕ) → IsVolts word v → IsVoltage (word ∷ []) v
  two : (first last : List ℕ) (low high : ℕ) → IsVolts first low → IsVolts last high → low ≤ high → IsVoltage (first ∷ last ∷ []) ((low + high) / 2)
  three : (first second last : List ℕ) (low v high : ℕ) → IsVolts first low → IsVolts second v → IsVolts last high → low ≤ high
      → IsVoltage (first ∷ second ∷ last ∷ []) v

-- the words stand for a value of a supply: `off`, or a voltage
pub data IsValue : List (List ℕ) → Value → Type 0 where
  off : IsValue (codes "off" ∷ []) Off
  on : (words : List (List ℕ)) (v : ℕ) → IsVoltage words v → IsValue words (On v)
