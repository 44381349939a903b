-- Tests of bytes: letters, digits and `_` are graphic, and begin nothing that is skipped.
use Rattle.std.proofs.Common.{◌≡◌, ℕ, ◌<◌, ◌≤◌, ◌==◌, nat_le, Bool, true, false, ◌||◌, cond, ◌⊎◌, inl, inr, refl, sym, subst, arith}
use Rattle.std.proofs.lemmas.Bool.{and_from, and_left, and_parts, false≢true, or_cases}
use Rattle.std.specs.Char.{is_ascii_alphabetic, is_ascii_digit}
use Rattle.std.specs.Int.{is_in_range}
use Rattle.text_defs.specs.Pieces.{is_white}
use Rattle.net_text.specs.NetlistTokens.{begins_name, is_graphic, is_name_byte}

-- ---- choices

pub pass : {A : Type 0} (b : Bool) (x y z : A) → b ≡ false → y ≡ z → cond b x y ≡ z
pass true x y z e k = absurd (false≢true (sym e))
pass false x y z e k = k

pub chosen : {A : Type 0} (b : Bool) (x y : A) → b ≡ true → cond b x y ≡ x
chosen true x y e = refl
chosen false x y e = absurd (false≢true e)

pub neither : (a b : Bool) → a ≡ false → b ≡ false → (a || b) ≡ false
neither true b e f = e
neither false b e f = f

pub first_holds : (a b : Bool) → a ≡ true → (a || b) ≡ true
first_holds true b e = refl
first_holds false b e = absurd (false≢true e)

-- ---- numbers

pub equal : (a b : ℕ) → (a == b) ≡ true → a ≡ b
equal a b e = grind arith

pub at_most : (a b : ℕ) → nat_le a b ≡ true → a ≤ b
at_most a b e = grind arith

most_at : (a b : ℕ) → a ≤ b → nat_le a b ≡ true
most_at a b le = grind arith

pub not_equal : (a b : ℕ) → (a ≡ b → ⊥) → (a == b) ≡ false
not_equal a b differ = by (a == b) refl
  where
    by : (t : Bool) → (a == b) ≡ t → t ≡ false
    by true e = absurd (differ (equal a b e))
    by false e = refl

pub above : (b c : ℕ) → c < b → (b == c) ≡ false
above b c lt = not_equal b c (λ e. omega (arith, lt, e))

pub in_range : (low high b : ℕ) → is_in_range low high b ≡ true → (low ≤ b) × (b ≤ high)
in_range low high b e =
    let parts = and_parts (nat_le low b) (nat_le b high) e in
    (at_most low b parts.0, at_most b high parts.1)

-- a byte that begins no comment, attribute, directive or escaped identifier
pub record IsWithin (b : ℕ) : Type 0 where
  pub low : 48 ≤ b
  pub high : b ≤ 122
  pub escape : b ≡ 92 → ⊥
  pub quote : b ≡ 96 → ⊥

within_range : (low high b : ℕ) → is_in_range low high b ≡ true → 48 ≤ low → high ≤ 122 → (high < 92) ⊎ (96 < low) → IsWithin b
within_range low high b e from to apart = by (in_range low high b e) apart
  where
    by : (low ≤ b) × (b ≤ high) → (high < 92) ⊎ (96 < low) → IsWithin b
    by r (inl under) = record {
      low = omega (arith, from, r.0);
      high = omega (arith, to, r.1);
      escape = λ e. omega (arith, under, r.1, e);
      quote = λ e. omega (arith, under, r.1, e);
    }
    by r (inr over) = record {
      low = omega (arith, from, r.0);
      high = omega (arith, to, r.1);
      escape = λ e. omega (arith, over, r.0, e);
      quote = λ e. omega (arith, over, r.0, e);
    }

pub within_digit : (b : ℕ) → is_ascii_digit b ≡ true → IsWithin b
within_digit b e = within_range 48 57 b e (omega arith) (omega arith) (inl (omega arith))

within_letter : (b : ℕ) → is_ascii_alphabetic b ≡ true → IsWithin b
within_letter b e = by (or_cases (is_in_range 65 90 b) (is_in_range 97 122 b) e)
  where
    by : (is_in_range 65 90 b ≡ true) ⊎ (is_in_range 97 122 b ≡ true) → IsWithin b
    by (inl capital) = within_range 65 90 b capital (omega arith) (omega arith) (inl (omega arith))
    by (inr small) = within_range 97 122 b small (omega arith) (omega arith) (inr (omega arith))

pub within_name : (b : ℕ) → begins_name b ≡ true → IsWithin b
within_name b e = by (or_cases (is_ascii_alphabetic b) (b == 95) e)
  where
    by : (is_ascii_alphabetic b ≡ true) ⊎ ((b == 95) ≡ true) → IsWithin b
    by (inl letter) = within_letter b letter
    by (inr line) =
        let is : b ≡ 95 = equal b 95 line in
        record { low = omega (arith, is); high = omega (arith, is); escape = λ e. omega (arith, is, e); quote = λ e. omega (arith, is, e) }

graphic_range : (b : ℕ) → 33 ≤ b → b ≤ 126 → is_graphic b ≡ true
graphic_range b low high = and_from (nat_le 33 b) (nat_le b 126) (most_at 33 b low) (most_at b 126 high)

pub graphic_within : (b : ℕ) → IsWithin b → is_graphic b ≡ true
graphic_within b w = graphic_range b (omega (arith, w.low)) (omega (arith, w.high))

pub name_graphic : (b : ℕ) → is_name_byte b ≡ true → is_graphic b ≡ true
name_graphic b e = by (or_cases (begins_name b || is_ascii_digit b) (b == 36) e)
  where
    first : (begins_name b ≡ true) ⊎ (is_ascii_digit b ≡ true) → is_graphic b ≡ true
    first (inl begins) = graphic_within b (within_name b begins)
    first (inr digit) = graphic_within b (within_digit b digit)

    by : ((begins_name b || is_ascii_digit b) ≡ true) ⊎ ((b == 36) ≡ true) → is_graphic b ≡ true
    by (inl early) = first (or_cases (begins_name b) (is_ascii_digit b) early)
    by (inr dollar) = subst (λ (c : ℕ). is_graphic c ≡ true) (sym (equal b 36 dollar)) refl

pub digit_graphic : (b : ℕ) → is_ascii_digit b ≡ true → is_graphic b ≡ true
digit_graphic b e = graphic_within b (within_digit b e)

pub white_none : (b : ℕ) → 32 < b → is_white b ≡ false
white_none b lt =
    neither (b == 32 || b == 9 || b == 10 || b == 13) (b == 12)
    (neither (b == 32 || b == 9 || b == 10) (b == 13)
    (neither (b == 32 || b == 9) (b == 10)
    (neither (b == 32) (b == 9) (above b 32 lt) (above b 9 (omega (arith, lt)))) (above b 10 (omega (arith, lt)))) (above b 13 (omega (arith, lt)))) (above b 12 (omega (arith, lt)))

pub digit_name : (b : ℕ) → is_ascii_digit b ≡ true → begins_name b ≡ false
digit_name b e =
    let high : b ≤ 57 = (in_range 48 57 b e).1 in
    neither (is_ascii_alphabetic b) (b == 95) (neither (is_in_range 65 90 b) (is_in_range 97 122 b) (under 65 90 (omega (arith, high))) (under 97 122 (omega (arith, high))))
    (not_equal b 95 (λ e. omega (arith, high, e)))
  where
    below : (low : ℕ) → b < low → nat_le low b ≡ false
    below low lt = by (nat_le low b) refl
      where
        by : (t : Bool) → nat_le low b ≡ t → t ≡ false
        by true e = let le : low ≤ b = at_most low b e in absurd (omega (arith, le, lt))
        by false e = refl

    under : (low high : ℕ) → b < low → is_in_range low high b ≡ false
    under low high lt = and_left (nat_le low b) (nat_le b high) (below low lt)
