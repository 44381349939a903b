-- How a place in a text goes on by one piece.
use Rattle.std.proofs.Common.{◌≡◌, ℕ, ◌+◌, ◌-◌, ◌<◌, ◌≤◌, true, false, List, ◌∷◌, length, drop, min, refl, sym, ◌∙◌, ap, subst, arith}
use Rattle.std.proofs.lemmas.List.{drop_more}
use Rattle.std.specs.List.{slice_index_or}
use Rattle.tcl_words.specs.Pieces.{Piece, HasPieces, joined, carried, is_blank, is_newline, behind_blanks}
use Rattle.tcl_words.specs.Cuts.{pieces_of}
use Rattle.tcl_words.specs.Places.{IsPlace}
use Rattle.tcl_words.specs.TclFaults.{newlines}
use Rattle.tcl_words.proofs.Cuts.{has_pieces, only_pieces}

-- a blank is skipped, and what isn't one stays
pub blank_skipped : (text : List ℕ) (n : ℕ) → n < length text → is_blank (slice_index_or text n 0) ≡ true
    → behind_blanks (drop (n + 1) text) ≡ behind_blanks (drop n text)
blank_skipped text n less blank = rw (drop_more text n 0 less, behind_blanks, blank) refl

pub ink_stays : (text : List ℕ) (n : ℕ) → n < length text → is_blank (slice_index_or text n 0) ≡ false
    → behind_blanks (drop n text) ≡ drop n text
ink_stays text n less ink = rw (drop_more text n 0 less, behind_blanks, ink) refl

-- two bytes of a text in front of what is behind them
two_at : (text : List ℕ) (n : ℕ) → n + 1 < length text → slice_index_or text n 0 ≡ 92 → slice_index_or text (n + 1) 0 ≡ 10
    → drop n text ≡ 92 ∷ 10 ∷ drop (n + 1 + 1) text
two_at text n within slash ended =
    drop_more text n 0 (omega arith) ∙ ap (λ b. b ∷ drop (n + 1) text) slash
    ∙ ap (λ rest. 92 ∷ rest) (drop_more text (n + 1) 0 within ∙ ap (λ b. b ∷ drop (n + 1 + 1) text) ended)

-- what a backslash and a newline begin: the line is carried on past the blanks
pub carried_at : (text : List ℕ) (n next : ℕ) → n + 1 < length text → slice_index_or text n 0 ≡ 92 → slice_index_or text (n + 1) 0 ≡ 10
    → drop next text ≡ behind_blanks (drop (n + 1 + 1) text) → pieces_of (drop n text) ≡ carried ∷ pieces_of (drop next text)
carried_at text n next within slash ended skipped =
    only_pieces (drop n text) (carried ∷ pieces_of (drop next text))
    (subst (λ t. HasPieces t (carried ∷ pieces_of (drop next text))) (sym (two_at text n within slash ended))
    (joined (drop (n + 1 + 1) text) (pieces_of (drop next text)) (subst (λ t. HasPieces t (pieces_of (drop next text))) skipped (has_pieces (drop next text)))))

-- one line further, but for the greatest number
next_line : (all left number : ℕ) → left + 1 ≤ all → number ≡ min (1 + (all - (left + 1))) 4294967295
    → min (number + 1) 4294967295 ≡ min (1 + (all - left)) 4294967295
next_line all left number within here = rw here (omega arith)

-- a newline more is left
one_more : (p : Piece) (rest : List Piece) → is_newline p ≡ true → newlines (p ∷ rest) ≡ newlines rest + 1
one_more p rest h = rw (h, newlines) (omega arith)

-- the line of a place behind a newline
pub place_behind_newline : (text : List ℕ) (n next number later : ℕ) (p : Piece) → IsPlace text n number → next ≤ length text → is_newline p ≡ true
    → pieces_of (drop n text) ≡ p ∷ pieces_of (drop next text) → later ≡ min (number + 1) 4294967295 → IsPlace text next later
place_behind_newline text n next number later p here within ended e is =
    let more : newlines (pieces_of (drop n text)) ≡ newlines (pieces_of (drop next text)) + 1 = ap newlines e ∙ one_more p (pieces_of (drop next text)) ended in
    let fits : newlines (pieces_of (drop next text)) + 1 ≤ newlines (pieces_of text) = subst (λ k. k ≤ newlines (pieces_of text)) more here.behind in
    let on_line : number ≡ min (1 + (newlines (pieces_of text) - (newlines (pieces_of (drop next text)) + 1))) 4294967295 =
    here.on_line ∙ ap (λ k. min (1 + (newlines (pieces_of text) - k)) 4294967295) more
    in
    record { within = within; behind = omega arith; on_line = is ∙ next_line (newlines (pieces_of text)) (newlines (pieces_of (drop next text))) number fits on_line }
