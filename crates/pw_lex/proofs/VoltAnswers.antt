-- Why a text is a voltage or none, by its two parts.
use Rattle.std.proofs.Common.{◌≡◌, ℕ, ◌+◌, ◌-◌, ◌*◌, ◌^◌, ◌<◌, ◌≤◌, List, ◌++◌, length, min, sym, ap, subst, ◌∙◌, arith}
use Rattle.std.proofs.Math.Nat.{mul-le-mul_left, mul-le-mul_right, one-le-pow}
use Rattle.std.specs.List.{before_first}
use Rattle.std.specs.Str.Parse.{AllDigits, digits_value, digits_value_after}
use Rattle.std.proofs.lemmas.List.{length-append}
use Rattle.text_defs.specs.Volts.{is_point, decimals_of, digits_of}
use Rattle.pw_lex.specs.VoltForms.{HasVoltForm, microvolts}
use Rattle.pw_lex.proofs.DigitLemmas.{digits_append, all_append, all_parts, capped_before}

-- a part of a voltage is of digits
pub whole_digits : (text whole : List ℕ) → whole ≡ before_first is_point text → HasVoltForm text → AllDigits 10 whole
whole_digits text whole is f = subst (AllDigits 10) (sym is) (all_parts (before_first is_point text) (decimals_of text) f.digits.1).0

pub decimal_digits : (text decimals : List ℕ) → decimals ≡ decimals_of text → HasVoltForm text → AllDigits 10 decimals
decimal_digits text decimals is f = subst (AllDigits 10) (sym is) (all_parts (before_first is_point text) (decimals_of text) f.digits.1).1

-- two parts of digits have the form
pub has_form : (text whole decimals : List ℕ) → whole ≡ before_first is_point text → decimals ≡ decimals_of text
    → 0 < length whole + length decimals → length decimals ≤ 6 → AllDigits 10 whole → AllDigits 10 decimals → HasVoltForm text
has_form text whole decimals first second some six all more =
    record {
      digits = subst (λ ds. (0 < length ds) × AllDigits 10 ds) both (omega (arith, length-append whole decimals), all_append whole decimals all more);
      decimals = subst (λ ds. length ds ≤ 6) second six;
    }
  where
    both : whole ++ decimals ≡ digits_of text
    both = ap (λ w. w ++ decimals) first ∙ ap (λ ds. before_first is_point text ++ ds) second

-- the number that is read, while it is no more than the highest voltage
pub number_read : (text whole decimals : List ℕ) (n : ℕ) → whole ≡ before_first is_point text → decimals ≡ decimals_of text
    → n ≡ min (digits_value_after 10 (min (digits_value_after 10 0 whole) 1000000001) decimals) 1000000001
    → n ≡ min (digits_value 10 (digits_of text)) 1000000001
number_read text whole decimals n first second is =
    is ∙ capped_before (digits_value_after 10 0 whole) 1000000001 decimals
    ∙ ap (λ v. min v 1000000001) (sym (digits_append 0 whole decimals) ∙ ap (λ ds. digits_value 10 ds) (ap (λ w. w ++ decimals) first ∙ ap (λ ds. before_first is_point text ++ ds) second))

-- above the highest voltage, capped or not
pub range_told : (v n unit : ℕ) → n ≡ min v 1000000001 → 1000000000 < n * unit → 1000000000 < v * unit
range_told v n unit is high = let less : n ≤ v = omega arith in let grown : n * unit ≤ v * unit = mul-le-mul_right unit less in omega arith

-- no more than the highest voltage: the number wasn't capped
pub volts_told : (v n unit : ℕ) → n ≡ min v 1000000001 → 1 ≤ unit → n * unit ≤ 1000000000 → n * unit ≡ v * unit
volts_told v n unit is some_unit low =
    let grown : n * 1 ≤ n * unit = mul-le-mul_left n some_unit in
    let same : n ≡ v = omega arith in
    ap (λ k. k * unit) same

-- the microvolts of a text, by its number and the unit of its last decimal
abbrev pub IsRead : List ℕ → List ℕ → ℕ → ℕ → Type 0
IsRead text decimals n unit = (n ≡ min (digits_value 10 (digits_of text)) 1000000001) × (unit ≡ 10 ^ (6 - length decimals)) × (decimals ≡ decimals_of text)

unit_there : (text decimals : List ℕ) (unit : ℕ) → unit ≡ 10 ^ (6 - length decimals) → decimals ≡ decimals_of text → unit ≡ 10 ^ (6 - length (decimals_of text))
unit_there text decimals unit is same = is ∙ ap (λ ds. 10 ^ (6 - length ds)) same

pub too_high : (text decimals : List ℕ) (n unit : ℕ) → IsRead text decimals n unit → 1000000000 < n * unit → 1000000000 < microvolts text
too_high text decimals n unit read high =
    subst (λ u. 1000000000 < digits_value 10 (digits_of text) * u) (unit_there text decimals unit read.1 read.2)
    (range_told (digits_value 10 (digits_of text)) n unit read.0 high)

pub value_read : (text decimals : List ℕ) (n unit : ℕ) → IsRead text decimals n unit → n * unit ≤ 1000000000 → n * unit ≡ microvolts text
value_read text decimals n unit read low =
    volts_told (digits_value 10 (digits_of text)) n unit read.0 (subst (λ u. 1 ≤ u) (sym read.1) (one-le-pow (6 - length decimals) 10 (omega arith))) low
    ∙ ap (λ u. digits_value 10 (digits_of text) * u) (unit_there text decimals unit read.1 read.2)
