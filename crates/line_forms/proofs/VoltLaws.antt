-- A text that is read as a voltage is one, and the other way round.
use Rattle.std.proofs.Common.{◌≡◌, ◌≢◌, ℕ, ◌+◌, ◌-◌, ◌*◌, ◌^◌, ◌<◌, ◌≤◌, Bool, true, false, cond, ◌&&◌, eqb, leb, List, [], ◌∷◌, ◌++◌, length, get_or, drop, Option, Some, None, refl, sym, ap, subst, ◌∙◌, arith}
use Rattle.std.specs.Char.{is_ascii_digit, digit_value}
use Rattle.std.specs.List.{before_first}
use Rattle.std.specs.Str.Parse.{AllDigits, digits_value_after, digits_value}
use Rattle.std.proofs.Math.Nat.{one-le-pow, mul-le-mul_left}
use Rattle.std.proofs.lemmas.Bool.{eqb-false, leb-true, le-leb, ne_eqb}
use Rattle.std.proofs.lemmas.List.{drop_more, drop_all, length-append}
use Rattle.std.proofs.lemmas.Str.{digit_value_digit}
use Rattle.std.proofs.lemmas.Str.Parse.{digit_from_value}
use Rattle.text_defs.specs.Volts.{is_point, decimals_of, IsVolts}
use Rattle.line_forms.specs.Reading.{◌>>=◌}
use Rattle.line_forms.specs.ScriptReading.{number_from, unit_of, in_range, with_digits, volts_of}
use Rattle.line_forms.proofs.Words.{let_through}
use Rattle.line_forms.proofs.Laws.{some_is, bind_some}
use Rattle.line_forms.proofs.NameLaws.{both_true}

-- ---- digits

abbrev next_of : ℕ → ℕ → ℕ
next_of n b = n * 10 + (b - 48)

abbrev fits : ℕ → ℕ → Bool
fits n b = is_ascii_digit b && leb (next_of n b) 1000000000

-- how the number goes on at place i
number_at : (n : ℕ) (ds : List ℕ) (i : ℕ) → i < length ds → number_from n (drop i ds) ≡ cond (fits n (get_or ds i 0)) (number_from (next_of n (get_or ds i 0)) (drop (i + 1) ds)) None
unfolding number_from
number_at n ds i lt = ap (number_from n) (drop_more ds i 0 lt)

pub number_not_digit : (n : ℕ) (ds : List ℕ) (i : ℕ) → i < length ds → is_ascii_digit (get_or ds i 0) ≡ false → number_from n (drop i ds) ≡ None
number_not_digit n ds i lt other = number_at n ds i lt ∙ rw other refl

pub number_too_high : (n : ℕ) (ds : List ℕ) (i : ℕ) → i < length ds → 1000000000 < next_of n (get_or ds i 0) → number_from n (drop i ds) ≡ None
number_too_high n ds i lt high =
    number_at n ds i lt ∙ ap (λ (b : Bool). cond b (number_from (next_of n (get_or ds i 0)) (drop (i + 1) ds)) None) (no_fit (is_ascii_digit (get_or ds i 0)) (leb (next_of n (get_or ds i 0)) 1000000000) (over (next_of n (get_or ds i 0)) high))
  where
    over : (m : ℕ) → 1000000000 < m → leb m 1000000000 ≡ false
    over m h = by_test (leb m 1000000000) refl
      where
        by_test : (t : Bool) → leb m 1000000000 ≡ t → leb m 1000000000 ≡ false
        by_test true e = absurd (omega (arith, leb-true m 1000000000 e))
        by_test false e = e

    no_fit : (a b : Bool) → b ≡ false → (a && b) ≡ false
    no_fit true b e = e
    no_fit false b e = refl

pub number_goes_on : (n : ℕ) (ds : List ℕ) (i : ℕ) → i < length ds → is_ascii_digit (get_or ds i 0) ≡ true → next_of n (get_or ds i 0) ≤ 1000000000 → number_from n (drop i ds) ≡ number_from (next_of n (get_or ds i 0)) (drop (i + 1) ds)
number_goes_on n ds i lt digit le =
    let within : leb (next_of n (get_or ds i 0)) 1000000000 ≡ true = le-leb _ _ le in
    number_at n ds i lt ∙ rw (digit, within) refl

pub number_ends : (n : ℕ) (ds : List ℕ) (i : ℕ) → length ds ≤ i → number_from n (drop i ds) ≡ Some n
unfolding number_from
number_ends n ds i le = ap (number_from n) (drop_all i ds le)

-- a digit has its value
digit_is : (b : ℕ) → is_ascii_digit b ≡ true → (digit_value b ≡ b - 48) × (digit_value b < 10)
digit_is b digit =
    let p = both_true (leb 48 b) (leb b 57) digit in
    let low : 48 ≤ b = leb-true 48 b p.0 in
    let high : b ≤ 57 = leb-true b 57 p.1 in
    let value : digit_value b + 48 ≡ b = digit_value_digit b (low, high) in
    (omega arith, omega arith)

is_digit : (b : ℕ) → digit_value b < 10 → (is_ascii_digit b ≡ true) × (digit_value b ≡ b - 48)
is_digit b lt =
    let r = digit_from_value b lt in
    let low : leb 48 b ≡ true = le-leb 48 b r.0 in
    let high : leb b 57 ≡ true = le-leb b 57 r.1 in
    let value : digit_value b + 48 ≡ b = digit_value_digit b r in
    (rw (low, high) refl, omega arith)

number_found : (n : ℕ) (ds : List ℕ) (m : ℕ) → number_from n ds ≡ Some m → AllDigits 10 ds × (digits_value_after 10 n ds ≡ m)
unfolding number_from
number_found n [] m e = (tt, some_is n m e)
number_found n (b ∷ ds) m e =
    let p = let_through (fits n b) (number_from (next_of n b) ds) m e in
    let q = both_true (is_ascii_digit b) (leb (next_of n b) 1000000000) p.0 in
    let d = digit_is b q.0 in
    let others = number_found (next_of n b) ds m p.1 in
    ((d.1, others.0), ap (λ (x : ℕ). digits_value_after 10 (n * 10 + x) ds) d.0 ∙ others.1)

digits_grow : (n : ℕ) (ds : List ℕ) → n ≤ digits_value_after 10 n ds
digits_grow n [] = omega arith
digits_grow n (b ∷ ds) = let others = digits_grow (n * 10 + digit_value b) ds in omega arith

number_again : (n : ℕ) (ds : List ℕ) → AllDigits 10 ds → digits_value_after 10 n ds ≤ 1000000000 → number_from n ds ≡ Some (digits_value_after 10 n ds)
unfolding number_from
number_again n [] all le = refl
number_again n (b ∷ ds) all le =
    let d = is_digit b all.0 in
    let grows = digits_grow (n * 10 + digit_value b) ds in
    let same : n * 10 + digit_value b ≡ next_of n b = ap (λ (x : ℕ). n * 10 + x) d.1 in
    let within : leb (next_of n b) 1000000000 ≡ true = le-leb (next_of n b) 1000000000 (omega arith) in
    let others = number_again (n * 10 + digit_value b) ds all.1 le in
    rw (d.0, within) (ap (λ (x : ℕ). number_from x ds) (sym same) ∙ others)

digits_append : (n : ℕ) (xs ys : List ℕ) → digits_value_after 10 n (xs ++ ys) ≡ digits_value_after 10 (digits_value_after 10 n xs) ys
digits_append n [] ys = refl
digits_append n (x ∷ xs) ys = digits_append (n * 10 + digit_value x) xs ys

all_append : (xs ys : List ℕ) → AllDigits 10 xs → AllDigits 10 ys → AllDigits 10 (xs ++ ys)
all_append [] ys p q = q
all_append (x ∷ xs) ys p q = (p.0, all_append xs ys p.1 q)

all_parts : (xs ys : List ℕ) → AllDigits 10 (xs ++ ys) → AllDigits 10 xs × AllDigits 10 ys
all_parts [] ys p = (tt, p)
all_parts (x ∷ xs) ys p = let q = all_parts xs ys p.1 in ((p.0, q.0), q.1)

-- ---- voltages

unit_found : (d unit : ℕ) → unit_of d ≡ Some unit → (d ≤ 6) × (10 ^ (6 - d) ≡ unit)
unfolding unit_of
unit_found d unit e =
    let p = let_through (leb d 6) (Some (10 ^ (6 - d))) unit e in
    (leb-true d 6 p.0, some_is (10 ^ (6 - d)) unit p.1)

unit_again : (d : ℕ) → d ≤ 6 → unit_of d ≡ Some (10 ^ (6 - d))
unfolding unit_of
unit_again d le = rw (le-leb d 6 le) refl

range_found : (w v : ℕ) → in_range w ≡ Some v → (w ≤ 1000000000) × (w ≡ v)
range_found w v e =
    let p = let_through (leb w 1000000000) (Some w) v e in
    (leb-true w 1000000000 p.0, some_is w v p.1)

range_again : (v : ℕ) → v ≤ 1000000000 → in_range v ≡ Some v
range_again v le = rw (le-leb v 1000000000 le) refl

-- a text with a digit, in its two parts
module _ (whole decimals : List ℕ) where
  abbrev digits : List ℕ
  digits = whole ++ decimals

  parts_found : (v : ℕ) → with_digits whole decimals ≡ Some v → AllDigits 10 digits × (length decimals ≤ 6) × (v ≡ digits_value 10 digits * 10 ^ (6 - length decimals)) × (v ≤ 1000000000)
  parts_found v e =
      let a = bind_some (unit_of (length decimals)) (λ unit. number_from 0 whole >>= λ n. number_from n decimals >>= λ m. in_range (m * unit)) v e in
      let b = bind_some (number_from 0 whole) (λ n. number_from n decimals >>= λ m. in_range (m * a.0)) v a.2 in
      let d = bind_some (number_from b.0 decimals) (λ m. in_range (m * a.0)) v b.2 in
      let unit = unit_found (length decimals) a.0 a.1 in
      let first = number_found 0 whole b.0 b.1 in
      let second = number_found b.0 decimals d.0 d.1 in
      let range = range_found (d.0 * a.0) v d.2 in
      let number : digits_value 10 digits ≡ d.0 = digits_append 0 whole decimals ∙ ap (λ (n : ℕ). digits_value_after 10 n decimals) first.1 ∙ second.1 in
      let value : v ≡ digits_value 10 digits * 10 ^ (6 - length decimals) = sym range.1 ∙ ap (λ (m : ℕ). m * a.0) (sym number) ∙ ap (λ (u : ℕ). digits_value 10 digits * u) (sym unit.1) in
      (all_append whole decimals first.0 second.0, unit.0, value, omega (arith, range.0, range.1))

  parts_again : (v : ℕ) → AllDigits 10 digits → length decimals ≤ 6 → v ≡ digits_value 10 digits * 10 ^ (6 - length decimals) → v ≤ 1000000000 → with_digits whole decimals ≡ Some v
  parts_again v all few value limit =
      let p = all_parts whole decimals all in
      let n = digits_value 10 whole in
      let m = digits_value_after 10 n decimals in
      let number : digits_value 10 digits ≡ m = digits_append 0 whole decimals in
      let unit = 10 ^ (6 - length decimals) in
      let one : 1 ≤ unit = one-le-pow (6 - length decimals) 10 (omega arith) in
      let whole_value : v ≡ m * unit = value ∙ ap (λ (x : ℕ). x * unit) number in
      let within : m * 1 ≤ m * unit = mul-le-mul_left m one in
      let m_fits : m ≤ 1000000000 = omega arith in
      let grows = digits_grow n decimals in
      let n_fits : n ≤ 1000000000 = omega arith in
      let first : number_from 0 whole ≡ Some n = number_again 0 whole p.0 n_fits in
      let second : number_from n decimals ≡ Some m = number_again n decimals p.1 m_fits in
      let range : in_range (m * unit) ≡ Some v = subst (λ (x : ℕ). in_range x ≡ Some v) whole_value (range_again v limit) in
      rw (unit_again (length decimals) few, first, second) range

some_digit : (m : ℕ) → 0 < m → eqb m 0 ≡ false
some_digit m lt = ne_eqb m 0 (λ e. omega arith)

pub volts_found : (text : List ℕ) (v : ℕ) → volts_of text ≡ Some v → IsVolts text v
unfolding volts_of
volts_found text v e =
    let whole = before_first is_point text in
    let decimals = decimals_of text in
    let q = given (eqb (length whole + length decimals) 0) (with_digits whole decimals) v e in
    let ne : length whole + length decimals ≢ 0 = eqb-false (length whole + length decimals) 0 q.0 in
    let some : 0 < length (whole ++ decimals) = omega (arith, length-append whole decimals) in
    let p = parts_found whole decimals v q.1 in
    record { digits = (some, p.0); decimals = p.1; value = p.2; limit = p.3 }
  where
    given : (b : Bool) (o : Option ℕ) (y : ℕ) → cond b None o ≡ Some y → (b ≡ false) × (o ≡ Some y)
    given true o y h = absurd cc
    given false o y h = (refl, h)

pub volts_again : (text : List ℕ) (v : ℕ) → IsVolts text v → volts_of text ≡ Some v
unfolding volts_of
volts_again text v is =
    let whole = before_first is_point text in
    let decimals = decimals_of text in
    let some : 0 < length whole + length decimals = omega (arith, length-append whole decimals, is.digits.0) in
    rw (some_digit (length whole + length decimals) some) (parts_again whole decimals v is.digits.1 is.decimals is.value is.limit)
