-- Numbers with many digits.
use Rattle.std.proofs.Common.{◌≡◌, ℕ, ◌+◌, ◌*◌, ◌<◌, min, List, [], ◌∷◌, length, drop, get_or, sym, ap, ◌∙◌, arith}
use Rattle.std.proofs.lemmas.List.{drop_more}
use Rattle.std.specs.Char.{digit_value}
use Rattle.std.specs.Str.Parse.{digits_value_after}

-- a number stays cut at a limit, wherever it was cut before
after_cut : (n : ℕ) (digits : List ℕ) → min (digits_value_after 10 (min n 100000) digits) 100000 ≡ min (digits_value_after 10 n digits) 100000
after_cut n [] = omega arith
after_cut n (c ∷ digits) =
    sym (after_cut (min n 100000 * 10 + digit_value c) digits)
    ∙ ap (λ m. min (digits_value_after 10 m digits) 100000) (let e : min (min n 100000 * 10 + digit_value c) 100000 ≡ min (n * 10 + digit_value c) 100000 = omega arith in e)
    ∙ after_cut (n * 10 + digit_value c) digits

pub cut_step : (number digit : ℕ) (digits : List ℕ) (i : ℕ) (total : ℕ) → i < length digits → digit ≡ get_or digits i 0
    → min (digits_value_after 10 number (drop i digits)) 100000 ≡ total
    → min (digits_value_after 10 (min (number * 10 + digit_value digit) 100000) (drop (i + 1) digits)) 100000 ≡ total
cut_step number digit digits i total lt is so_far =
    after_cut (number * 10 + digit_value digit) (drop (i + 1) digits)
    ∙ rw is (sym (ap (λ l. min (digits_value_after 10 number l) 100000) (drop_more digits i 0 lt)))
    ∙ so_far
