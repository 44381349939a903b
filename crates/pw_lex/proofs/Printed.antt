-- The digits of numbers below 10,000.
use Rattle.std.proofs.Common.{◌≡◌, ℕ, zero, suc, ◌+◌, ◌-◌, ◌/◌, ◌%◌, ◌<◌, ◌≤◌, [], ◌∷◌, ◌++◌, take, drop, decimal, refl, sym, ap, ◌∙◌, arith}
use Rattle.text_defs.specs.Text.{volts}
use Rattle.std.proofs.lemmas.Fmt.{decimal_step, decimal_by_steps}

-- the last digit of each number
pub one_digit : (n : ℕ) → n < 10 → decimal n ≡ (48 + n % 10) ∷ []
one_digit n less =
    let same : n % 10 ≡ n = omega arith in
    decimal_by_steps (λ m ds. m < 10 → ds ≡ (48 + m) ∷ []) (λ m l h. refl) (λ m ds more h l. absurd (omega (arith, more, l))) n (omega arith) less
    ∙ ap (λ k. (48 + k) ∷ []) (sym same)

pub two_digits : (n : ℕ) → 10 ≤ n → n < 100 → decimal n ≡ (48 + n / 10 % 10) ∷ (48 + n % 10) ∷ []
two_digits n more less = decimal_step n more (omega arith) ∙ ap (λ ds. ds ++ (48 + n % 10) ∷ []) (one_digit (n / 10) (omega arith))

pub three_digits : (n : ℕ) → 100 ≤ n → n < 1000 → decimal n ≡ (48 + n / 100 % 10) ∷ (48 + n / 10 % 10) ∷ (48 + n % 10) ∷ []
three_digits n more less =
    let same : n / 10 / 10 ≡ n / 100 = omega arith in
    decimal_step n (omega arith) (omega arith) ∙ ap (λ ds. ds ++ (48 + n % 10) ∷ []) (two_digits (n / 10) (omega arith) (omega arith))
    ∙ ap (λ k. (48 + k % 10) ∷ (48 + n / 10 % 10) ∷ (48 + n % 10) ∷ []) same

pub four_digits : (n : ℕ) → 1000 ≤ n → n < 10000 → decimal n ≡ (48 + n / 1000 % 10) ∷ (48 + n / 100 % 10) ∷ (48 + n / 10 % 10) ∷ (48 + n % 10) ∷ []
four_digits n more less =
    let first : n / 10 / 100 ≡ n / 1000 = omega arith in
    let second : n / 10 / 10 ≡ n / 100 = omega arith in
    decimal_step n (omega arith) (omega arith) ∙ ap (λ ds. ds ++ (48 + n % 10) ∷ []) (three_digits (n / 10) (omega arith) (omega arith))
    ∙ ap (λ k. (48 + k % 10) ∷ (48 + n / 10 / 10 % 10) ∷ (48 + n / 10 % 10) ∷ (48 + n % 10) ∷ []) first
    ∙ ap (λ k. (48 + n / 1000 % 10) ∷ (48 + k % 10) ∷ (48 + n / 10 % 10) ∷ (48 + n % 10) ∷ []) second

-- what is left of four digits, in front of a point and six digits
cut_at : (k a b c d p e f g h i j : ℕ) → k < 4
    → take (11 - k) (drop k (a ∷ b ∷ c ∷ d ∷ p ∷ e ∷ f ∷ g ∷ h ∷ i ∷ j ∷ [])) ≡ drop k (a ∷ b ∷ c ∷ d ∷ []) ++ p ∷ e ∷ f ∷ g ∷ h ∷ i ∷ j ∷ []
cut_at zero a b c d p e f g h i j less = refl
cut_at (suc zero) a b c d p e f g h i j less = refl
cut_at (suc (suc zero)) a b c d p e f g h i j less = refl
cut_at (suc (suc (suc zero))) a b c d p e f g h i j less = refl
cut_at (suc (suc (suc (suc k)))) a b c d p e f g h i j less = absurd (omega arith)

-- the digits of microvolts, without those that aren't needed
pub printed : (v k a b c d e f g h i j : ℕ) → k < 4
    → decimal (v / 1000000) ≡ drop k ((48 + v / 1000000 / 1000 % 10) ∷ (48 + v / 1000000 / 100 % 10) ∷ (48 + v / 1000000 / 10 % 10) ∷ (48 + v / 1000000 % 10) ∷ [])
    → a ≡ 48 + v / 1000000 / 1000 % 10
    → b ≡ 48 + v / 1000000 / 100 % 10
    → c ≡ 48 + v / 1000000 / 10 % 10
    → d ≡ 48 + v / 1000000 % 10
    → e ≡ 48 + v % 1000000 / 100000 % 10
    → f ≡ 48 + v % 1000000 / 10000 % 10
    → g ≡ 48 + v % 1000000 / 1000 % 10
    → h ≡ 48 + v % 1000000 / 100 % 10
    → i ≡ 48 + v % 1000000 / 10 % 10
    → j ≡ 48 + v % 1000000 % 10
    → take (11 - k) (drop k (a ∷ b ∷ c ∷ d ∷ 46 ∷ e ∷ f ∷ g ∷ h ∷ i ∷ j ∷ [])) ≡ volts v
printed v k a b c d e f g h i j less needed a_is b_is c_is d_is e_is f_is g_is h_is i_is j_is =
    cut_at k a b c d 46 e f g h i j less ∙ rw (a_is, b_is, c_is, d_is, e_is, f_is, g_is, h_is, i_is, j_is) (rw needed refl)
