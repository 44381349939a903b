-- Pieces of digits: alone, or with the base and value of a constant.
use Rattle.std.proofs.Common.{◌≡◌, ◌≢◌, ℕ, zero, suc, ◌+◌, ◌-◌, ◌<◌, ◌≤◌, true, false, List, [], ◌∷◌, ◌++◌, length, take, drop, get_or, refl, sym, ap, ◌∙◌, arith}
use Rattle.std.proofs.Math.Seq.{take-add}
use Rattle.std.proofs.lemmas.List.{length-append, length-drop}
use Rattle.text_defs.specs.Pieces.{Piece}
use Rattle.net_text.specs.NetlistTokens.{NetlistPiece, Constant, is_width, number_piece, based, digits_at}
use Rattle.net_text.specs.PieceViews.{digits_alone}

pub no_value : (digits more : List ℕ) → length more ≡ 0 → digits_alone digits ≡ number_piece digits more
no_value digits [] e = refl
no_value digits (b ∷ more) e = cc

pub no_width : (digits more : List ℕ) → is_width digits ≡ false → digits_alone digits ≡ number_piece digits more
no_width digits [] e = refl
no_width digits (b ∷ more) e = rw e refl

abbrev value_piece : List ℕ → Piece NetlistPiece
value_piece text = record { what = Constant text; size = length text }

pub with_value : (digits more text : List ℕ) (size : ℕ) → length more ≢ 0 → is_width digits ≡ true → text ≡ digits ++ more → size ≡ length text
    → (let P : Piece NetlistPiece = record { what = Constant text; size = size } in P) ≡ number_piece digits more
with_value digits [] text size e w split is = absurd (e refl)
with_value digits (b ∷ more) text size e w split is =
    ap (λ (n : ℕ). let P : Piece NetlistPiece = record { what = Constant text; size = n } in P) is ∙ ap value_piece split ∙ rw w refl

-- a size within what stands behind another size
pub within_both : (text behind : List ℕ) (size more : ℕ) → behind ≡ drop size text → size ≤ length text → more ≤ length behind → size + more ≤ length text
within_both text behind size more back fits rest =
    let l : length behind ≡ length text - size = ap length back ∙ length-drop size text in
    omega arith

pub take_again : (n : ℕ) (text : List ℕ) → take (length (take n text)) text ≡ take n text
take_again zero text = refl
take_again (suc n) [] = refl
take_again (suc n) (x ∷ text) = ap (λ t. x ∷ t) (take_again n text)

module _ (text digits behind : List ℕ) (size more : ℕ) (front : digits ≡ take size text) (back : behind ≡ drop size text)
    (all : size ≡ length (digits_at text)) (value : more ≡ length (based behind)) where
  same_digits : digits ≡ digits_at text
  same_digits = front ∙ ap (λ n. take n text) all ∙ take_again _ text

  same_behind : behind ≡ drop (length (digits_at text)) text
  same_behind = back ∙ ap (λ n. drop n text) all

  there : number_piece digits (based behind) ≡ number_piece (digits_at text) (based (drop (length (digits_at text)) text))
  there = ap (λ d. number_piece d (based behind)) same_digits ∙ ap (λ b. number_piece (digits_at text) (based b)) same_behind

  pub no_value_piece : more ≡ 0 → digits_alone digits ≡ number_piece (digits_at text) (based (drop (length (digits_at text)) text))
  no_value_piece e = no_value digits (based behind) (sym value ∙ e) ∙ there

  pub no_width_piece : is_width digits ≡ false → digits_alone digits ≡ number_piece (digits_at text) (based (drop (length (digits_at text)) text))
  no_width_piece e = no_width digits (based behind) e ∙ there

  pub constant_piece : (whole : List ℕ) → more ≢ 0 → is_width digits ≡ true → take more behind ≡ based behind → whole ≡ take (size + more) text
      → (let P : Piece NetlistPiece = record { what = Constant whole; size = size + more } in P) ≡ number_piece (digits_at text) (based (drop (length (digits_at text)) text))
  constant_piece whole some w short is =
      with_value digits (based behind) whole (size + more) (λ e. some (value ∙ e)) w split long ∙ there
    where
      split : whole ≡ digits ++ based behind
      split = is ∙ take-add size more text ∙ ap (λ t. take size text ++ take more t) (sym back) ∙ ap (λ t. take size text ++ t) short ∙ ap (λ d. d ++ based behind) (sym front)

      long : size + more ≡ length whole
      long =
          ap (λ n. n + more) (all ∙ ap length (sym same_digits)) ∙ ap (λ n. length digits + n) value ∙ sym (length-append digits (based behind)) ∙ ap length (sym split)

-- a text that isn't empty is its first byte and what stands behind it
pub first_split : (text behind : List ℕ) (byte : ℕ) → 0 < length text → byte ≡ get_or text 0 0 → behind ≡ drop 1 text → text ≡ byte ∷ behind
first_split [] behind byte some first rest = absurd (omega (arith, some))
first_split (x ∷ text) behind byte some first rest = cc
