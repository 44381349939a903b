-- Digits one after the other, and numbers that are capped.
use Rattle.std.proofs.Common.{◌≡◌, ℕ, ◌+◌, ◌-◌, ◌*◌, ◌<◌, ◌≤◌, Bool, true, false, leb, ◌&&◌, List, [], ◌∷◌, ◌++◌, length, get_or, drop, min, refl, sym, ap, subst, ◌∙◌, arith}
use Rattle.std.specs.Char.{is_ascii_digit, digit_value}
use Rattle.std.specs.Int.{IsInRange}
use Rattle.std.specs.Str.Parse.{AllDigits, digits_value_after}
use Rattle.std.proofs.lemmas.Bool.{leb-true, leb-false, le-leb, false≢true}
use Rattle.std.proofs.lemmas.List.{drop_more}
use Rattle.std.proofs.lemmas.Str.{digit_value_digit}
use Rattle.std.proofs.lemmas.Str.Parse.{digit_from_value}

-- a digit has its value
pub digit_is : (b : ℕ) → digit_value b < 10 → digit_value b ≡ b - 48
digit_is b less = omega (arith, digit_value_digit b (digit_from_value b less))

-- a digit is told by its range
pub digit_told : (b : ℕ) → is_ascii_digit b ≡ true → digit_value b < 10
digit_told b h = by (leb 48 b) refl (leb b 57) refl h
  where
    by : (s : Bool) → leb 48 b ≡ s → (t : Bool) → leb b 57 ≡ t → (s && t) ≡ true → digit_value b < 10
    by true e true f h =
        let range : IsInRange 48 57 b = (leb-true 48 b e, leb-true b 57 f) in omega (arith, digit_value_digit b range)
    by true e false f h = absurd (false≢true h)
    by false e t f h = absurd (false≢true h)

pub told_digit : (b : ℕ) → digit_value b < 10 → is_ascii_digit b ≡ true
told_digit b h = let range : IsInRange 48 57 b = digit_from_value b h in rw (le-leb 48 b range.0, le-leb b 57 range.1) refl

-- digits from a place on
pub digits_from : (text : List ℕ) (i : ℕ) → i < length text → AllDigits 10 (drop i text) → (digit_value (get_or text i 0) < 10) × AllDigits 10 (drop (i + 1) text)
digits_from text i less all = subst (AllDigits 10) (drop_more text i 0 less) all

pub digits_to : (text : List ℕ) (i : ℕ) → i < length text → digit_value (get_or text i 0) < 10 → AllDigits 10 (drop (i + 1) text) → AllDigits 10 (drop i text)
digits_to text i less digit all = subst (AllDigits 10) (sym (drop_more text i 0 less)) (digit, all)

-- digits make a number no less
digits_grow : (n : ℕ) (ds : List ℕ) → n ≤ digits_value_after 10 n ds
digits_grow n [] = omega arith
digits_grow n (b ∷ ds) = let others = digits_grow (n * 10 + digit_value b) ds in omega arith

-- it is the same where the number before is capped first
pub capped_before : (n cap : ℕ) (ds : List ℕ) → min (digits_value_after 10 (min n cap) ds) cap ≡ min (digits_value_after 10 n ds) cap
capped_before n cap ds = by (leb n cap) refl
  where
    by : (t : Bool) → leb n cap ≡ t → min (digits_value_after 10 (min n cap) ds) cap ≡ min (digits_value_after 10 n ds) cap
    by true e = let less : n ≤ cap = leb-true n cap e in let same : min n cap ≡ n = omega arith in ap (λ k. min (digits_value_after 10 k ds) cap) same
    by false e =
        let more : cap < n = leb-false n cap e in
        let same : min n cap ≡ cap = omega arith in
        let grown : n ≤ digits_value_after 10 n ds = digits_grow n ds in
        let kept : cap ≤ digits_value_after 10 cap ds = digits_grow cap ds in
        ap (λ k. min (digits_value_after 10 k ds) cap) same ∙ omega arith

-- a number goes on by a digit
pub goes_on : (n cap : ℕ) (text : List ℕ) (i : ℕ) → i < length text → AllDigits 10 (drop i text)
    → min (digits_value_after 10 (min (n * 10 + (get_or text i 0 - 48)) cap) (drop (i + 1) text)) cap ≡ min (digits_value_after 10 n (drop i text)) cap
goes_on n cap text i less all =
    let digit = digits_from text i less all in
    capped_before (n * 10 + (get_or text i 0 - 48)) cap (drop (i + 1) text)
    ∙ ap (λ d. min (digits_value_after 10 (n * 10 + d) (drop (i + 1) text)) cap) (sym (digit_is (get_or text i 0) digit.0))
    ∙ ap (λ ds. min (digits_value_after 10 n ds) cap) (sym (drop_more text i 0 less))

-- digits in two parts
pub digits_append : (n : ℕ) (xs ys : List ℕ) → digits_value_after 10 n (xs ++ ys) ≡ digits_value_after 10 (digits_value_after 10 n xs) ys
digits_append n [] ys = refl
digits_append n (x ∷ xs) ys = digits_append (n * 10 + digit_value x) xs ys

pub all_append : (xs ys : List ℕ) → AllDigits 10 xs → AllDigits 10 ys → AllDigits 10 (xs ++ ys)
all_append [] ys p q = q
all_append (x ∷ xs) ys p q = (p.0, all_append xs ys p.1 q)

pub all_parts : (xs ys : List ℕ) → AllDigits 10 (xs ++ ys) → AllDigits 10 xs × AllDigits 10 ys
all_parts [] ys p = (tt, p)
all_parts (x ∷ xs) ys p = let q = all_parts xs ys p.1 in ((p.0, q.0), q.1)
