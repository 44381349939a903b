-- Which texts are voltages.
use Rattle.std.specs.Prelude.{◌≡◌, ℕ, ◌*◌, ◌-◌, ◌^◌, ◌≤◌, ◌==◌, Bool, List, ◌++◌, length}
use Rattle.std.specs.List.{before_first, after_first}
use Rattle.std.specs.Str.Parse.{IsNumeral, digits_value}

-- whether a byte is the decimal point
abbrev pub is_point : ℕ → Bool
is_point b = b == 46

-- what stands behind the first point, which is nothing where there is none
abbrev pub decimals_of : List ℕ → List ℕ
decimals_of text = after_first is_point text

-- what stands before the first point, and behind it what stands behind it
abbrev pub digits_of : List ℕ → List ℕ
digits_of text = before_first is_point text ++ decimals_of text

-- The text is a voltage, and v its microvolts: decimal digits, at least one, with at most one point and at most
-- six of them behind it. It is no more than 1000 V.
pub record IsVolts (text : List ℕ) (v : ℕ) : Type 0 where
  pub digits : IsNumeral 10 (digits_of text)
  pub decimals : length (decimals_of text) ≤ 6
  pub value : v ≡ digits_value 10 (digits_of text) * 10 ^ (6 - length (decimals_of text))
  pub limit : v ≤ 1000000000
