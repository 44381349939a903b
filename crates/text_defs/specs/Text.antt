-- How numbers and voltages are printed.
use Rattle.std.specs.Prelude.{ℕ, ◌+◌, ◌/◌, ◌%◌, List, [], ◌∷◌, ◌++◌, decimal, codes}
use Rattle.pw_defs.specs.declared.values.Value.{Value}
use Rattle.pw_defs.specs.declared.values.Value.TheVariants.{Off, On}

-- the six digits of a number below a million
abbrev pub six_digits : ℕ → List ℕ
six_digits n =
    (48 + n / 100000 % 10) ∷ (48 + n / 10000 % 10) ∷ (48 + n / 1000 % 10) ∷ (48 + n / 100 % 10) ∷ (48 + n / 10 % 10) ∷ (48 + n % 10) ∷ []

-- microvolts as volts with six decimals
abbrev pub volts : ℕ → List ℕ
volts v = decimal (v / 1000000) ++ 46 ∷ six_digits (v % 1000000)

-- a value: off, or its volts
abbrev pub value_text : Value → List ℕ
value_text Off = codes "off"
value_text (On v) = volts v
