-- Each token of a netlist has a text.
use Rattle.std.proofs.Common.{◌≡◌, ◌≢◌, ℕ, zero, suc, ◌+◌, ◌-◌, ◌==◌, Bool, true, false, cond, not, ◌&&◌, ◌||◌, List, [], ◌∷◌, ◌++◌, Option, None, Some, drop, length, refl, sym, ap, ◌∙◌}
use Rattle.std.specs.Char.{is_ascii_digit}
use Rattle.std.specs.List.{AllByRecursion, flat_map, take_while}
use Rattle.std.proofs.lemmas.List.Sums.{take_while-cons}
use Rattle.list_defs.proofs.Rising.{each_joined}
use Rattle.text_defs.specs.Lines.{last_line}
use Rattle.text_defs.specs.Pieces.{Piece, Placed, begins_with, is_blank, is_white, pieces, pieces_from}
use Rattle.text_defs.specs.Tokens.{Token}
use Rattle.net_text.specs.NetlistTokens.{NetlistClass, NetlistPiece, based, begins_name, byte_piece, digits_at, escaped_piece, is_graphic, is_name_byte, is_width}
use Rattle.net_text.specs.NetlistTokens.{netlist_piece, netlist_tokens, number_piece, skipped_piece, token_of}

abbrev pub HasText : Token NetlistClass → Type 0
HasText t = t.text ≢ []

-- what tokens are made of isn't empty
abbrev IsFull : NetlistPiece → Type 0
IsFull NetlistPiece.Skipped = Unit {0}
IsFull (NetlistPiece.Plain word) = word ≢ []
IsFull (NetlistPiece.Escaped name) = name ≢ []
IsFull (NetlistPiece.Digits digits) = digits ≢ []
IsFull (NetlistPiece.Constant text) = text ≢ []
IsFull (NetlistPiece.Mark b) = Unit {0}
IsFull NetlistPiece.Unclosed = Unit {0}

abbrev HasFull : Piece NetlistPiece → Type 0
HasFull p = IsFull p.what

-- ---- pieces

some_first : (x : ℕ) (xs : List ℕ) → (x ∷ xs) ≢ []
some_first x xs e = cc

-- a run that begins is not empty
some_run : (p : ℕ → Bool) (b : ℕ) (rest : List ℕ) → p b ≡ true → take_while p (b ∷ rest) ≢ []
some_run p b rest passes empty =
    some_first b (take_while p rest)
    (sym (take_while-cons p b rest ∙ ap (λ c. cond c (b ∷ take_while p rest) []) passes) ∙ empty)

full_skipped : (behind : List ℕ) (closed : Option ℕ) → HasFull (skipped_piece behind closed)
full_skipped behind None = tt
full_skipped behind (Some n) = tt

full_escaped : (name behind : List ℕ) → HasFull (escaped_piece name behind)
full_escaped name [] = tt
full_escaped [] (b ∷ behind) = tt
full_escaped (c ∷ name) (b ∷ behind) = by (is_white b)
  where
    by : (white : Bool) → HasFull (cond white (record { what = NetlistPiece.Escaped (c ∷ name); size = 2 + length name }) (byte_piece (NetlistPiece.Mark 92)))
    by true = some_first c name
    by false = tt

joined_full : (digits more : List ℕ) → digits ≢ [] → (digits ++ more) ≢ []
joined_full [] more some = absurd (some refl)
joined_full (d ∷ digits) more some = some_first d (digits ++ more)

full_number : (digits more : List ℕ) → digits ≢ [] → HasFull (number_piece digits more)
full_number digits [] some = some
full_number digits (b ∷ more) some = by (is_width digits)
  where
    by : (wide : Bool) → HasFull (cond wide (record { what = NetlistPiece.Constant (digits ++ b ∷ more); size = length (digits ++ b ∷ more) })
        (record { what = NetlistPiece.Digits digits; size = length digits }))
    by true = joined_full digits (b ∷ more) some
    by false = some

-- of two pieces by a test
either : (P : Piece NetlistPiece → Type 0) (test : Bool) (this other : Piece NetlistPiece) → (test ≡ true → P this) → P other → P (cond test this other)
either P true this other one two = one refl
either P false this other one two = two

name_byte : (b : ℕ) → begins_name b ≡ true → is_name_byte b ≡ true
name_byte b begins = ap (λ (c : Bool). c || is_ascii_digit b || b == 36) begins

full_piece : (fresh : Bool) (b : ℕ) (rest : List ℕ) → HasFull (netlist_piece fresh (b ∷ rest))
unfolding netlist_piece
full_piece fresh b rest =
    let P : Piece NetlistPiece → Type 0 = λ p. HasFull p in
    either P (is_white b) _ _ (λ _. tt)
    (either P (fresh && b == 96) _ _ (λ _. tt)
    (either P (b == 47 && begins_with 47 rest) _ _ (λ _. tt)
    (either P (b == 47 && begins_with 42 rest) _ _ (λ _. full_skipped _ _)
    (either P (b == 40 && (begins_with 42 rest && not (begins_with 41 (drop 1 rest)))) _ _ (λ _. full_skipped _ _)
    (either P (begins_name b) _ _ (λ e. some_run is_name_byte b rest (name_byte b e))
    (either P (b == 92) _ _ (λ _. full_escaped (take_while is_graphic rest) (drop (length (take_while is_graphic rest)) rest))
    (either P (is_ascii_digit b) _ _
    (λ e. full_number (digits_at (b ∷ rest)) (based (drop (length (digits_at (b ∷ rest))) (b ∷ rest))) (some_run is_ascii_digit b rest e)) tt)))))))

-- what holds of each piece that can begin holds of all pieces of a text
each_piece : {A : Type 0} (P : A → Type 0) (piece : Bool → List ℕ → Piece A) → ((fresh : Bool) (b : ℕ) (rest : List ℕ) → P (piece fresh (b ∷ rest)).what)
    → (text : List ℕ) (place : ℕ) (fresh : Bool) (covered : ℕ) (left : List ℕ)
    → AllByRecursion (λ (p : Placed A). P p.what) (pieces_from piece text place fresh covered left)
unfolding pieces_from
each_piece P piece each text place fresh covered [] = tt
each_piece P piece each text place fresh (suc covered) (b ∷ rest) =
    each_piece P piece each text (place + 1) (b == 10 || (fresh && is_blank b)) covered rest
each_piece P piece each text place fresh zero (b ∷ rest) =
    (each fresh b rest, each_piece P piece each text (place + 1) (b == 10 || (fresh && is_blank b)) ((piece fresh (b ∷ rest)).size - 1) rest)

-- ---- tokens

full_token : (end : ℕ) (what : NetlistPiece) (line : ℕ) → IsFull what → AllByRecursion HasText (token_of end (record { what = what; line = line }))
full_token end NetlistPiece.Skipped line full = tt
full_token end (NetlistPiece.Plain word) line full = (full, tt)
full_token end (NetlistPiece.Escaped name) line full = (full, tt)
full_token end (NetlistPiece.Digits digits) line full = (full, tt)
full_token end (NetlistPiece.Constant text) line full = (full, tt)
full_token end (NetlistPiece.Mark b) line full = (some_first b [], tt)
full_token end NetlistPiece.Unclosed line full = (some_first 45 [], tt)

each_token : (end : ℕ) (placed : List (Placed NetlistPiece)) → AllByRecursion (λ (p : Placed NetlistPiece). IsFull p.what) placed
    → AllByRecursion HasText (flat_map (token_of end) placed)
each_token end [] each = tt
each_token end (p ∷ placed) each =
    each_joined HasText (token_of end p) (flat_map (token_of end) placed) (full_token end p.what p.line each.0) (each_token end placed each.1)

-- each token of a netlist's text has a text
pub tokens_have_texts : (text : List ℕ) → AllByRecursion HasText (netlist_tokens text)
tokens_have_texts text = each_token (last_line text) (pieces netlist_piece text) (each_piece IsFull netlist_piece full_piece text 0 true 0 text)
