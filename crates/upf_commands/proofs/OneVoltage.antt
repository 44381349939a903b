-- Words stand for one voltage at most, and for one value.
use Rattle.std.proofs.Common.{◌≡◌, ℕ, ◌+◌, ◌/◌, ◌<◌, List, [], ◌∷◌, refl, sym, ◌∙◌, ap, ap₂, codes, subst, arith}
use Rattle.std.specs.Char.{digit_value}
use Rattle.std.specs.Str.Parse.{AllDigits}
use Rattle.pw_defs.specs.declared.values.Value.{Value}
use Rattle.pw_defs.specs.declared.values.Value.TheVariants.{On}
use Rattle.text_defs.specs.Volts.{IsVolts, digits_of}
use Rattle.upf_commands.specs.Voltages.{IsVoltage, one, two, three, IsValue, off, on}

pub one_volts : (text : List ℕ) (v w : ℕ) → IsVolts text v → IsVolts text w → v ≡ w
one_volts text v w h k = h.value ∙ sym k.value

pub one_voltage : (words : List (List ℕ)) (v w : ℕ) → IsVoltage words v → IsVoltage words w → v ≡ w
one_voltage words v w (one text a h) (one text' b k) = one_volts text a b h k
one_voltage words v w (two first last low high h i up) (two first' last' low' high' k j up') =
    ap₂ (λ a b. (a + b) / 2) (one_volts first low low' h k) (one_volts last high high' i j)
one_voltage words v w (three first second last low a high h m i up) (three first' second' last' low' b high' k n j up') = one_volts second a b m n

-- `off` is no voltage
off_is_none : (words : List (List ℕ)) (v : ℕ) → words ≡ codes "off" ∷ [] → IsVoltage words v → ⊥
off_is_none words v e (one text a h) =
    let same : text ≡ codes "off" = cc in
    let digits : AllDigits 10 (digits_of (codes "off")) = subst (λ t. AllDigits 10 (digits_of t)) same h.digits.1 in
    let first : digit_value 111 < 10 = digits.0 in
    omega arith
off_is_none words v e (two first last low high h i up) = cc
off_is_none words v e (three first second last low a high h m i up) = cc

pub one_value : (words : List (List ℕ)) (v w : Value) → IsValue words v → IsValue words w → v ≡ w
one_value words v w off off = refl
one_value words v w off (on ws b k) = absurd (off_is_none (codes "off" ∷ []) b refl k)
one_value words v w (on ws a h) off = absurd (off_is_none (codes "off" ∷ []) a refl h)
one_value words v w (on ws a h) (on ws' b k) = ap On (one_voltage ws a b h k)
