-- A step over a piece of a library's text.
use Rattle.std.proofs.Common.{◌≡◌, ℕ, ◌+◌, ◌<◌, ◌≤◌, min, max, Bool, true, List, [], ◌∷◌, ◌++◌, Option, Some, None, length, filter, take, drop, refl, sym, ap, ◌∙◌, arith}
use Rattle.std.proofs.lemmas.List.{length-drop, drop_all, drop-drop}
use Rattle.std.proofs.lemmas.List.Elements.{filter-append}
use Rattle.text_defs.specs.Lines.{line_at, last_line}
use Rattle.text_defs.specs.Pieces.{Piece, Placed, pieces_from}
use Rattle.text_defs.specs.Tokens.{Token}
use Rattle.text_streams.specs.Places.{fresh_after}
use Rattle.text_streams.proofs.PlaceLaws.{piece_step}
use Rattle.lib_cells.specs.LibraryWords.{LibraryPiece, LibraryClass, library_piece, token_of, tokens_from}
use Rattle.lib_cells.specs.Streams.{EndsAt, inked_from, is_inked, one_inked, pieces_ahead}
use Rattle.lib_cells.specs.declared.lexer.PlacedPiece.{PlacedPiece}
use Rattle.lib_cells.proofs.PieceLaws.{same_piece}

-- nothing is left at the end
pub none_inked : (text : List ℕ) (at : ℕ) (fresh : Bool) → length text ≤ at → inked_from text at fresh ≡ []
unfolding inked_from pieces_from
none_inked text at fresh past = rw (drop_all at text past) refl

pub some_behind : (text rest : List ℕ) (at : ℕ) → at < length text → rest ≡ drop at text → 0 < length rest
some_behind text rest at lt back = let l = ap length back ∙ length-drop at text in omega (arith, lt, l)

-- the piece at a place, and the pieces behind it
pub inked_step : (text rest text2 : List ℕ) (at n at2 line : ℕ) (fresh fresh2 : Bool) (piece : Piece LibraryPiece) (ahead : List (Placed LibraryPiece))
    → at < length text → rest ≡ drop at text → line ≡ line_at text at → piece ≡ library_piece true rest → n ≡ min (max piece.size 1) (length rest)
    → ahead ≡ one_inked piece.what line → text2 ≡ text → at2 ≡ at + n → fresh2 ≡ fresh_after fresh (take n (drop at text))
    → inked_from text at fresh ≡ ahead ++ inked_from text2 at2 fresh2
unfolding inked_from
inked_step text rest text2 at n at2 line fresh fresh2 piece ahead lt back on is size w same there later =
    let some : 0 < length (drop at text) = some_behind text (drop at text) at lt refl in
    let whole : piece ≡ library_piece fresh (drop at text) = is ∙ ap (library_piece true) back ∙ sym (same_piece fresh (drop at text)) in
    let long : n ≡ min (max (library_piece fresh (drop at text)).size 1) (length (drop at text)) =
    size ∙ ap (λ (p : Piece LibraryPiece). min (max p.size 1) (length rest)) whole ∙ ap (λ (l : List ℕ). min (max (library_piece fresh (drop at text)).size 1) (length l)) back in
    let step = piece_step library_piece text at fresh (drop at text) n some long in
    let here : ahead ≡ one_inked (library_piece fresh (drop at text)).what (line_at text at) =
    w ∙ ap (λ (p : Piece LibraryPiece). one_inked p.what line) whole ∙ ap (one_inked (library_piece fresh (drop at text)).what) on in
    let behind : inked_from text2 at2 fresh2 ≡ filter is_inked (pieces_from library_piece text (at + n) (fresh_after fresh (take n (drop at text))) 0 (drop n (drop at text))) =
    ap (λ (t : List ℕ). inked_from t at2 fresh2) same ∙ ap (λ (p : ℕ). inked_from text p fresh2) there ∙ ap (λ (f : Bool). inked_from text (at + n) f) later
    ∙ ap (λ (l : List ℕ). filter is_inked (pieces_from library_piece text (at + n) (fresh_after fresh (take n (drop at text))) 0 l)) (sym (drop-drop n at text)) in
    let first : Placed LibraryPiece = record { what = (library_piece fresh (drop at text)).what; line = line_at text at } in
    ap (filter is_inked) step
    ∙ filter-append is_inked (first ∷ []) (pieces_from library_piece text (at + n) (fresh_after fresh (take n (drop at text))) 0 (drop n (drop at text)))
    ∙ ap (λ (l : List (Placed LibraryPiece)). l ++ filter is_inked (pieces_from library_piece text (at + n) (fresh_after fresh (take n (drop at text))) 0 (drop n (drop at text)))) (sym here)
    ∙ ap (λ (l : List (Placed LibraryPiece)). ahead ++ l) (sym behind)

-- a token looks at no more than the piece ahead
pub token_step : (end : ℕ) (p : Placed LibraryPiece) (ahead : Option PlacedPiece) (more : List (Placed LibraryPiece)) → EndsAt ahead more
    → token_of end p (pieces_ahead ahead ++ more) ≡ token_of end p (pieces_ahead ahead)
token_step end p None more none = ap (token_of end p) none
token_step end p (Some q) more some = refl

-- the token of a piece, and the tokens behind it
pub token_left : (text text2 : List ℕ) (p : Placed LibraryPiece) (behind : List (Placed LibraryPiece)) (ahead : Option PlacedPiece) (more : List (Placed LibraryPiece))
    (word : List (Token LibraryClass)) → text2 ≡ text → behind ≡ pieces_ahead ahead ++ more → EndsAt ahead more → word ≡ token_of (last_line text2) p (pieces_ahead ahead)
    → tokens_from (last_line text) (p ∷ behind) ≡ word ++ tokens_from (last_line text2) (pieces_ahead ahead ++ more)
unfolding tokens_from
token_left text text2 p behind ahead more word same split ends is =
    let end : last_line text2 ≡ last_line text = ap (λ t. last_line t) same in
    let here : token_of (last_line text) p behind ≡ word =
    ap (token_of (last_line text) p) split ∙ token_step (last_line text) p ahead more ends ∙ ap (λ (e : ℕ). token_of e p (pieces_ahead ahead)) (sym end) ∙ sym is in
    ap (λ l. l ++ tokens_from (last_line text) behind) here
    ∙ ap (λ l. word ++ tokens_from (last_line text) l) split
    ∙ ap (λ (e : ℕ). word ++ tokens_from e (pieces_ahead ahead ++ more)) (sym end)
