-- Each text has its pieces, and has them alone.
use Rattle.std.proofs.Common.{◌≡◌, ℕ, Bool, true, false, List, [], ◌∷◌, ◌==◌, refl, sym, ◌∙◌, ap, cond, eqb-true, ne_eqb, subst}
use Rattle.std.proofs.lemmas.Bool.{eqb-false}
use Rattle.tcl_words.specs.Pieces.{Piece, byte, escaped, carried, HasPieces, none, plain, taken, joined, last, is_blank, behind_blanks}
use Rattle.tcl_words.specs.Cuts.{Before, nothing, backslash, line, cut, pieces_of}

-- the text whose pieces those of the rest are
abbrev whole : Before → List ℕ → List ℕ
whole nothing rest = rest
whole backslash rest = 92 ∷ rest
whole line rest = behind_blanks rest

starts_piece : (b : ℕ) (rest : List ℕ) → HasPieces (92 ∷ rest) (cut backslash rest) → HasPieces rest (cut nothing rest)
    → HasPieces (b ∷ rest) (elim (b == 92) [ true ↦ cut backslash rest | false ↦ byte b ∷ cut nothing rest ])
starts_piece b rest behind here = by (b == 92) refl
  where
    by : (t : Bool) → (b == 92) ≡ t → HasPieces (b ∷ rest) (elim t [ true ↦ cut backslash rest | false ↦ byte b ∷ cut nothing rest ])
    by true e = subst (λ c. HasPieces (c ∷ rest) (cut backslash rest)) (sym (eqb-true b 92 e)) behind
    by false e = plain b rest (cut nothing rest) (eqb-false b 92 e) here

cuts : (before : Before) (rest : List ℕ) → HasPieces (whole before rest) (cut before rest)
cuts nothing [] = none
cuts nothing (b ∷ rest) = starts_piece b rest (cuts backslash rest) (cuts nothing rest)
cuts backslash [] = last
cuts backslash (b ∷ rest) = by (b == 10) refl (cuts line rest) (cuts nothing rest)
  where
    by : (t : Bool) → (b == 10) ≡ t → HasPieces (behind_blanks rest) (cut line rest) → HasPieces rest (cut nothing rest)
        → HasPieces (92 ∷ b ∷ rest) (elim t [ true ↦ carried ∷ cut line rest | false ↦ escaped b ∷ cut nothing rest ])
    by true e behind here = subst (λ c. HasPieces (92 ∷ c ∷ rest) (carried ∷ cut line rest)) (sym (eqb-true b 10 e)) (joined rest (cut line rest) behind)
    by false e behind here = taken b rest (cut nothing rest) (eqb-false b 10 e) here
cuts line [] = none
cuts line (b ∷ rest) = by (is_blank b) (cuts line rest) (starts_piece b rest (cuts backslash rest) (cuts nothing rest))
  where
    by : (t : Bool) → HasPieces (behind_blanks rest) (cut line rest)
        → HasPieces (b ∷ rest) (elim (b == 92) [ true ↦ cut backslash rest | false ↦ byte b ∷ cut nothing rest ])
        → HasPieces (cond t (behind_blanks rest) (b ∷ rest)) (elim t [ true ↦ cut line rest | false ↦ elim (b == 92) [ true ↦ cut backslash rest | false ↦ byte b ∷ cut nothing rest ] ])
    by true skipped here = skipped
    by false skipped here = here

-- a text has its pieces
pub has_pieces : (text : List ℕ) → HasPieces text (pieces_of text)
has_pieces text = cuts nothing text

-- blanks behind a line that is carried on are skipped
cut-behind_blanks : (rest : List ℕ) → cut line rest ≡ cut nothing (behind_blanks rest)
cut-behind_blanks [] = refl
cut-behind_blanks (b ∷ rest) = by (is_blank b) (cut-behind_blanks rest)
  where
    by : (t : Bool) → cut line rest ≡ cut nothing (behind_blanks rest)
        → (elim t [ true ↦ cut line rest | false ↦ elim (b == 92) [ true ↦ cut backslash rest | false ↦ byte b ∷ cut nothing rest ] ])
        ≡ cut nothing (cond t (behind_blanks rest) (b ∷ rest))
    by true later = later
    by false later = refl

-- a text has no other pieces
pub only_pieces : (text : List ℕ) (pieces : List Piece) → HasPieces text pieces → pieces_of text ≡ pieces
only_pieces text pieces none = refl
only_pieces text pieces (plain b rest more other h) = rw (ne_eqb b 92 other, pieces_of, cut) (ap (λ ps. byte b ∷ ps) (only_pieces rest more h))
only_pieces text pieces (taken b rest more other h) = rw (ne_eqb b 10 other, pieces_of, cut) (ap (λ ps. escaped b ∷ ps) (only_pieces rest more h))
only_pieces text pieces (joined rest more h) = ap (λ ps. carried ∷ ps) (cut-behind_blanks rest ∙ only_pieces (behind_blanks rest) more h)
only_pieces text pieces last = refl

-- two cuts of one text are the same
pub one_cut : (text : List ℕ) (p q : List Piece) → HasPieces text p → HasPieces text q → p ≡ q
one_cut text p q here there = sym (only_pieces text p here) ∙ only_pieces text q there
