-- Steps over white space, and over bytes of which none is white space.
use Rattle.std.proofs.Common.{◌≡◌, ℕ, ◌+◌, ◌-◌, ◌<◌, ◌≤◌, ◌==◌, nat_le, min, Bool, true, false, ◌&&◌, ◌||◌, cond, List, [], ◌∷◌, ◌++◌, length, filter, take, drop, get_or, refl, sym, ap, ◌∙◌, arith}
use Rattle.std.proofs.lemmas.Bool.{and_parts, and_right}
use Rattle.std.proofs.lemmas.List.{drop_more, length-drop, length-take}
use Rattle.std.specs.List.{list_all, flat_map}
use Rattle.text_defs.specs.Lines.{line_at, last_line, newlines}
use Rattle.text_defs.specs.Pieces.{Piece, is_white, is_blank, pieces_from}
use Rattle.text_streams.specs.Places.{fresh_after}
use Rattle.text_streams.proofs.PlaceLaws.{at_behind, on_line}
use Rattle.net_text.proofs.ByteLaws.{above, at_most, chosen, neither, pass}
use Rattle.net_text.specs.NetlistTokens.{NetlistPiece, is_graphic, netlist_piece, byte_piece, Skipped, token_of}
use Rattle.net_text.specs.Streams.{tokens_from}

-- ---- a byte

one_taken : (text : List ℕ) (place byte : ℕ) → place < length text → byte ≡ get_or text place 0 → byte ∷ [] ≡ take 1 (drop place text)
one_taken text place byte lt is = ap (λ (b : ℕ). b ∷ []) is ∙ sym (ap (take 1) (drop_more text place 0 lt))

newlines_one : (b : ℕ) → newlines (b ∷ []) ≡ cond (b == 10) 1 0
newlines_one b = by (b == 10)
  where
    by : (t : Bool) → length (cond t (b ∷ []) []) ≡ cond t 1 0
    by true = refl
    by false = refl

-- the line behind it
pub line_behind : (text : List ℕ) (place byte line : ℕ) → place < length text → byte ≡ get_or text place 0 → line ≡ line_at text place
    → min (line + cond (byte == 10) 1 0) 4294967295 ≡ line_at text (place + 1)
line_behind text place byte line lt is on =
    at_behind text (byte ∷ []) place 1 (min (line + cond (byte == 10) 1 0) 4294967295) (omega (arith, lt)) (one_taken text place byte lt is)
    (ap (λ (n : ℕ). min (line + n) 4294967295) (sym (newlines_one byte)) ∙ on_line line (line_at text place) (byte ∷ []) on)

white_piece : (fresh : Bool) (b : ℕ) (rest : List ℕ) → is_white b ≡ true → netlist_piece fresh (b ∷ rest) ≡ byte_piece Skipped
unfolding netlist_piece
white_piece fresh b rest e = chosen (is_white b) _ _ e

-- white space is no token
pub white_step : (text text2 : List ℕ) (place place2 byte : ℕ) (fresh fresh2 : Bool) → place < length text → byte ≡ get_or text place 0 → is_white byte ≡ true
    → text2 ≡ text → place2 ≡ place + 1 → fresh2 ≡ (byte == 10 || (fresh && is_blank byte)) → tokens_from text2 place2 fresh2 ≡ tokens_from text place fresh
unfolding tokens_from pieces_from
white_step text text2 place place2 byte fresh fresh2 lt is white same there later =
    let end : ℕ = last_line text in
    let rest : List ℕ = drop (place + 1) text in
    let split : drop place text ≡ byte ∷ rest = drop_more text place 0 lt ∙ ap (λ (b : ℕ). b ∷ rest) (sym is) in
    let fresh_there : Bool = byte == 10 || (fresh && is_blank byte) in
    let moved : tokens_from text2 place2 fresh2 ≡ tokens_from text (place + 1) fresh_there =
    ap (λ (t : List ℕ). tokens_from t place2 fresh2) same ∙ ap (λ (p : ℕ). tokens_from text p fresh2) there ∙ ap (λ (f : Bool). tokens_from text (place + 1) f) later in
    let here : flat_map (token_of end) (pieces_from netlist_piece text place fresh 0 (byte ∷ rest)) ≡ tokens_from text (place + 1) fresh_there =
    ap (λ (p : Piece NetlistPiece). token_of end (record { what = p.what; line = line_at text place }) ++ flat_map (token_of end) (pieces_from netlist_piece text (place + 1) fresh_there (p.size - 1) rest))
    (white_piece fresh byte rest white) in
    moved ∙ sym (ap (λ (l : List ℕ). flat_map (token_of end) (pieces_from netlist_piece text place fresh 0 l)) split ∙ here)

-- ---- bytes of which none is white space

graphic_parts : (b : ℕ) → is_graphic b ≡ true → ((b == 10) ≡ false) × (is_blank b ≡ false)
graphic_parts b e =
    let low : 33 ≤ b = at_most 33 b ((and_parts (nat_le 33 b) (nat_le b 126) e).0) in
    (above b 10 (omega (arith, low)), neither (b == 32) (b == 9) (above b 32 (omega (arith, low))) (above b 9 (omega (arith, low))))

no_newline : (bytes : List ℕ) → list_all is_graphic bytes ≡ true → newlines bytes ≡ 0
no_newline [] e = refl
no_newline (b ∷ bytes) e =
    let parts = and_parts (is_graphic b) (list_all is_graphic bytes) e in
    ap length (pass (b == 10) (b ∷ filter (λ c. c == 10) bytes) (filter (λ c. c == 10) bytes) (filter (λ c. c == 10) bytes) (graphic_parts b parts.0).0 refl)
    ∙ no_newline bytes parts.1

not_fresh : (bytes : List ℕ) → list_all is_graphic bytes ≡ true → fresh_after false bytes ≡ false
not_fresh [] e = refl
not_fresh (b ∷ bytes) e =
    let parts = and_parts (is_graphic b) (list_all is_graphic bytes) e in
    ap (λ (f : Bool). fresh_after f bytes) (neither (b == 10) false (graphic_parts b parts.0).0 refl) ∙ not_fresh bytes parts.1

not_fresh_behind : (fresh : Bool) (bytes : List ℕ) → 1 ≤ length bytes → list_all is_graphic bytes ≡ true → false ≡ fresh_after fresh bytes
not_fresh_behind fresh [] some e = absurd (omega (arith, some))
not_fresh_behind fresh (b ∷ bytes) some e =
    let parts = and_parts (is_graphic b) (list_all is_graphic bytes) e in
    let first = graphic_parts b parts.0 in
    sym (ap (λ (f : Bool). fresh_after f bytes) (neither (b == 10) (fresh && is_blank b) first.0 (and_right fresh (is_blank b) first.1)) ∙ not_fresh bytes parts.1)

line_within : (text : List ℕ) (place line : ℕ) → line ≡ line_at text place → line ≤ 4294967295
unfolding line_at
line_within text place line on =
    let e : line ≡ min (1 + newlines (take place text)) 4294967295 = on in
    omega (arith, e)

pub graphic_line : (text : List ℕ) (place size line : ℕ) → place + size ≤ length text → list_all is_graphic (take size (drop place text)) ≡ true → line ≡ line_at text place
    → line ≡ line_at text (place + size)
graphic_line text place size line within e on =
    let none : newlines (take size (drop place text)) ≡ 0 = no_newline (take size (drop place text)) e in
    let few : line ≤ 4294967295 = line_within text place line on in
    at_behind text (take size (drop place text)) place size line within refl (omega (arith, none, on, few))

pub graphic_fresh : (text : List ℕ) (place size : ℕ) (fresh : Bool) → place + size ≤ length text → 1 ≤ size → list_all is_graphic (take size (drop place text)) ≡ true
    → false ≡ fresh_after fresh (take size (drop place text))
graphic_fresh text place size fresh within some e =
    let long : length (take size (drop place text)) ≡ min size (length (drop place text)) = length-take size (drop place text) in
    not_fresh_behind fresh (take size (drop place text)) (omega (arith, long, length-drop place text, within, some)) e
