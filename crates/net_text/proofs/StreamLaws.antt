-- A step over a piece of a text.
use Rattle.std.proofs.Common.{◌≡◌, ℕ, ◌+◌, ◌-◌, ◌<◌, ◌≤◌, ◌==◌, min, max, Bool, true, ◌&&◌, cond, List, [], ◌∷◌, ◌++◌, Option, Some, None, length, take, drop, false, not, if◌then◌else◌, refl, sym, ap, subst, ◌∙◌, arith}
use Rattle.std.proofs.lemmas.List.{length-drop, drop_all, drop-drop}
use Rattle.std.specs.List.{flat_map, take_while}
use Rattle.text_defs.specs.Lines.{line_at, last_line}
use Rattle.std.specs.Char.{is_ascii_digit}
use Rattle.text_defs.specs.Pieces.{Piece, is_white, begins_with, pieces_from}
use Rattle.text_defs.specs.Tokens.{Token}
use Rattle.net_text.specs.NetlistTokens.{NetlistPiece, NetlistClass, netlist_piece, token_of, skipped_piece, escaped_piece, number_piece, is_width, is_graphic, digits_at, based, begins_name}
use Rattle.text_streams.specs.Places.{fresh_after}
use Rattle.text_streams.proofs.PlaceLaws.{piece_step}
use Rattle.net_text.specs.Streams.{tokens_from, IsMarkOf}

either : {A : Type 0} (P : A → Type 0) (b : Bool) (x y : A) → (b ≡ true → P x) → (b ≡ false → P y) → P (cond b x y)
either P true x y f g = f refl
either P false x y f g = g refl

equal : (a b : ℕ) → (a == b) ≡ true → a ≡ b
equal a b e = grind arith

mark_skipped : (behind : List ℕ) (closed : Option ℕ) (shown : List ℕ) → IsMarkOf (skipped_piece behind closed).what shown
mark_skipped behind None shown = tt
mark_skipped behind (Some n) shown = tt

mark_escaped : (name rest : List ℕ) (b : ℕ) → b ≡ 92 → IsMarkOf (escaped_piece name rest).what (b ∷ [])
mark_escaped name [] b e = tt
mark_escaped [] (c ∷ rest) b e = ap (λ (x : ℕ). x ∷ []) e
mark_escaped (d ∷ name) (c ∷ rest) b e =
    either (λ (p : Piece NetlistPiece). IsMarkOf p.what (b ∷ [])) (is_white c) _ _ (λ _. tt) (λ _. ap (λ (x : ℕ). x ∷ []) e)

mark_number : (digits more shown : List ℕ) → IsMarkOf (number_piece digits more).what shown
mark_number digits [] shown = tt
mark_number digits (b ∷ more) shown = either (λ (p : Piece NetlistPiece). IsMarkOf p.what shown) (is_width digits) _ _ (λ _. tt) (λ _. tt)

mark_at : (fresh : Bool) (b : ℕ) (rest : List ℕ) → IsMarkOf (netlist_piece fresh (b ∷ rest)).what (b ∷ [])
unfolding netlist_piece
mark_at fresh b rest =
    let P : Piece NetlistPiece → Type 0 = λ p. IsMarkOf p.what (b ∷ []) in
    either P (is_white b) _ _ (λ _. tt) (λ _.
    either P (fresh && b == 96) _ _ (λ _. tt) (λ _.
    either P (b == 47 && begins_with 47 rest) _ _ (λ _. tt) (λ _.
    either P (b == 47 && begins_with 42 rest) _ _ (λ _. mark_skipped _ _ _) (λ _.
    either P (b == 40 && (begins_with 42 rest && not (begins_with 41 (drop 1 rest)))) _ _ (λ _. mark_skipped _ _ _) (λ _.
    either P (begins_name b) _ _ (λ _. tt) (λ _.
    either P (b == 92) _ _ (λ e. mark_escaped (take_while is_graphic rest) (drop (length (take_while is_graphic rest)) rest) b (equal b 92 e)) (λ _.
    either P (is_ascii_digit b) _ _ (λ _. mark_number (digits_at (b ∷ rest)) (based (drop (length (digits_at (b ∷ rest))) (b ∷ rest))) (b ∷ [])) (λ _. refl))))))))

-- a byte by itself is the first of its text
pub mark_front : (fresh : Bool) (text shown : List ℕ) (what : NetlistPiece) → 0 < length text → what ≡ (netlist_piece fresh text).what → shown ≡ take 1 text → IsMarkOf what shown
mark_front fresh [] shown what some is first = absurd (omega (arith, some))
mark_front fresh (b ∷ rest) shown what some is first =
    subst (λ (w : NetlistPiece). IsMarkOf w shown) (sym is) (subst (λ (l : List ℕ). IsMarkOf (netlist_piece fresh (b ∷ rest)).what l) (sym first) (mark_at fresh b rest))

-- the token of the piece at a place, and the tokens behind it
pub word_step : (text rest text2 : List ℕ) (place n place2 line : ℕ) (fresh fresh2 : Bool) (piece : Piece NetlistPiece) (word : List (Token NetlistClass))
    → place < length text → rest ≡ drop place text → line ≡ line_at text place → piece ≡ netlist_piece fresh rest → n ≡ min (max piece.size 1) (length rest)
    → word ≡ token_of (last_line text) (record { what = piece.what; line = line }) → text2 ≡ text → place2 ≡ place + n
    → fresh2 ≡ fresh_after fresh (take n (drop place text)) → tokens_from text place fresh ≡ word ++ tokens_from text2 place2 fresh2
unfolding tokens_from
word_step text rest text2 place n place2 line fresh fresh2 piece word lt back on is size w same there later =
    let end : ℕ = last_line text in
    let some : 0 < length (drop place text) = omega (arith, lt, length-drop place text) in
    let long : n ≡ min (max (netlist_piece fresh (drop place text)).size 1) (length (drop place text)) =
    size ∙ ap (λ (p : Piece NetlistPiece). min (max p.size 1) (length rest)) (is ∙ ap (netlist_piece fresh) back) ∙ ap (λ (l : List ℕ). min (max (netlist_piece fresh (drop place text)).size 1) (length l)) back in
    let step = piece_step netlist_piece text place fresh (drop place text) n some long in
    let here : word ≡ token_of end (record { what = (netlist_piece fresh (drop place text)).what; line = line_at text place }) =
    w ∙ ap (λ (p : Piece NetlistPiece). token_of end (record { what = p.what; line = line })) (is ∙ ap (netlist_piece fresh) back)
    ∙ ap (λ (l : ℕ). token_of end (record { what = (netlist_piece fresh (drop place text)).what; line = l })) on in
    let behind : tokens_from text2 place2 fresh2 ≡ flat_map (token_of end) (pieces_from netlist_piece text (place + n) (fresh_after fresh (take n (drop place text))) 0 (drop n (drop place text))) =
    ap (λ (t : List ℕ). tokens_from t place2 fresh2) same ∙ ap (λ (p : ℕ). tokens_from text p fresh2) there ∙ ap (λ (f : Bool). tokens_from text (place + n) f) later
    ∙ ap (λ (l : List ℕ). flat_map (token_of end) (pieces_from netlist_piece text (place + n) (fresh_after fresh (take n (drop place text))) 0 l)) (sym (drop-drop n place text)) in
    ap (flat_map (token_of end)) step ∙ ap (λ (l : List (Token NetlistClass)). l ++ flat_map (token_of end) (pieces_from netlist_piece text (place + n) (fresh_after fresh (take n (drop place text))) 0 (drop n (drop place text)))) (sym here)
    ∙ ap (λ (l : List (Token NetlistClass)). word ++ l) (sym behind)

-- nothing is left at the end
pub none_behind : (text : List ℕ) (place : ℕ) (fresh : Bool) → length text ≤ place → tokens_from text place fresh ≡ []
unfolding tokens_from pieces_from
none_behind text place fresh past = rw (drop_all place text past) refl

pub some_behind : (text rest : List ℕ) (place : ℕ) → place < length text → rest ≡ drop place text → 0 < length rest
some_behind text rest place lt back = let l : length rest ≡ length text - place = ap length back ∙ length-drop place text in omega (arith, lt, l)

pub taken_there : {A B : Type 0} (b : Bool) (x : A) (other : B) → b ≡ true → (if b then Some x else None) ≡ Some x
taken_there b x other e = rw e refl
