-- The form of voltages, and why a text is no voltage.
use Rattle.std.specs.Prelude.{ℕ, ◌*◌, ◌-◌, ◌^◌, ◌<◌, ◌≤◌, List, length}
use Rattle.std.specs.Str.Parse.{IsNumeral, digits_value}
use Rattle.pw_defs.specs.declared.faults.VoltFault.{VoltFault}
use Rattle.pw_defs.specs.declared.faults.VoltFault.TheVariants.{Form, Range}
use Rattle.text_defs.specs.Volts.{digits_of, decimals_of}

-- The text has the form of a voltage: decimal digits, at least one, with at most one point and at most six of them behind it.
pub record HasVoltForm (text : List ℕ) : Type 0 where
  pub digits : IsNumeral 10 (digits_of text)
  pub decimals : length (decimals_of text) ≤ 6

-- the microvolts that a text of this form means
abbrev pub microvolts : List ℕ → ℕ
microvolts text = digits_value 10 (digits_of text) * 10 ^ (6 - length (decimals_of text))

-- the text is no voltage: it has not the form, or it has it and is above 1000 V
abbrev pub IsVoltFault : List ℕ → VoltFault → Type 0
IsVoltFault text Form = ¬ HasVoltForm text
IsVoltFault text Range = HasVoltForm text × (1000000000 < microvolts text)
