-- Tokens that are taken from their bytes at once are those of the pieces.
use Rattle.std.proofs.Common.{◌≡◌, ℕ, suc, ◌+◌, ◌-◌, ◌<◌, ◌≤◌, ◌==◌, min, Bool, true, false, not, ◌&&◌, ◌||◌, cond, if◌then◌else◌, List, [], ◌∷◌, ◌++◌, length, take, drop, codes, refl, sym, ap, subst, ◌∙◌, arith}
use Rattle.std.proofs.lemmas.Bool.{and_from, and_left, and_right, false≢true}
use Rattle.std.proofs.lemmas.List.{length-drop, length-take}
use Rattle.std.proofs.lemmas.List.Sums.{take_while-cons}
use Rattle.std.specs.Char.{is_ascii_digit}
use Rattle.std.specs.List.{list_all, list_any, take_while}
use Rattle.text_defs.specs.Lines.{line_at, last_line}
use Rattle.text_defs.specs.Pieces.{Piece, is_white, begins_with}
use Rattle.text_defs.specs.Tokens.{Token}
use Rattle.text_streams.specs.Places.{fresh_after}
use Rattle.net_text.specs.DirectWords.{IsDirect, is_mark}
use Rattle.net_text.specs.NetlistTokens.{NetlistPiece, NetlistClass, Mark, netlist_piece, token_of, name_piece, byte_piece, escaped_piece, number_piece, based, digits_at, begins_name, is_name_byte, is_graphic, mark_class, word_class, digits_class, is_base, is_value_byte}
use Rattle.net_text.specs.PieceViews.{digits_alone}
use Rattle.net_text.specs.Sizes.{IsNextMeasured}
use Rattle.net_text.specs.Streams.{tokens_from}
use Rattle.net_text.proofs.ByteLaws.{IsWithin, chosen, digit_graphic, digit_name, equal, first_holds, name_graphic, not_equal, pass, white_none, within_digit, within_name}
use Rattle.net_text.proofs.PieceLaws.{take_again}
use Rattle.net_text.proofs.SizeLaws.{measured_piece}
use Rattle.net_text.proofs.StreamLaws.{word_step}

-- ---- the piece that begins with a byte that begins nothing else

module _ (fresh : Bool) (b : ℕ) (rest : List ℕ) where
  plain_piece : (p : Piece NetlistPiece) → IsWithin b
      → (if begins_name b then name_piece (take_while is_name_byte (b ∷ rest))
      else if b == 92 then escaped_piece (take_while is_graphic rest) (drop (length (take_while is_graphic rest)) rest)
      else if is_ascii_digit b then number_piece (digits_at (b ∷ rest)) (based (drop (length (digits_at (b ∷ rest))) (b ∷ rest)))
      else byte_piece (Mark b)) ≡ p
      → netlist_piece fresh (b ∷ rest) ≡ p
  unfolding netlist_piece
  plain_piece p w k =
      let low : 48 ≤ b = w.low in
      pass (is_white b) _ _ _ (white_none b (omega (arith, low)))
      (pass (fresh && b == 96) _ _ _ (and_right fresh (b == 96) (not_equal b 96 w.quote))
      (pass (b == 47 && begins_with 47 rest) _ _ _ (and_left (b == 47) _ (not_equal b 47 (λ e. omega (arith, low, e))))
      (pass (b == 47 && begins_with 42 rest) _ _ _ (and_left (b == 47) _ (not_equal b 47 (λ e. omega (arith, low, e))))
      (pass (b == 40 && (begins_with 42 rest && not (begins_with 41 (drop 1 rest)))) _ _ _ (and_left (b == 40) _ (not_equal b 40 (λ e. omega (arith, low, e)))) k))))

  name_there : begins_name b ≡ true → netlist_piece fresh (b ∷ rest) ≡ name_piece (take_while is_name_byte (b ∷ rest))
  name_there e = plain_piece _ (within_name b e) (chosen (begins_name b) _ _ e)

  number_there : is_ascii_digit b ≡ true
      → netlist_piece fresh (b ∷ rest) ≡ number_piece (digits_at (b ∷ rest)) (based (drop (length (digits_at (b ∷ rest))) (b ∷ rest)))
  number_there e =
      let w = within_digit b e in
      plain_piece _ w (pass (begins_name b) _ _ _ (digit_name b e) (pass (b == 92) _ _ _ (not_equal b 92 w.escape) (chosen (is_ascii_digit b) _ _ e)))

-- ---- characters

-- a byte that is one of these has what each of them has
abbrev AreAll : (ℕ → Type 0) → List ℕ → Type 0
AreAll P [] = Unit {0}
AreAll P (c ∷ cs) = P c × AreAll P cs

one_among : (P : ℕ → Type 0) (b : ℕ) (cs : List ℕ) → list_any (λ c. b == c) cs ≡ true → AreAll P cs → P b
one_among P b [] e all = absurd (false≢true e)
one_among P b (c ∷ cs) e all = by (b == c) refl (one_among P b cs) e
  where
    by : (t : Bool) → (b == c) ≡ t → (list_any (λ c. b == c) cs ≡ true → AreAll P cs → P b) → (t || list_any (λ c. b == c) cs) ≡ true → P b
    by true is rest _ = subst P (sym (equal b c is)) all.0
    by false is rest more = rest more all.1

abbrev IsAlone : List ℕ → ℕ → Type 0
IsAlone rest b = ((fresh : Bool) → netlist_piece fresh (b ∷ rest) ≡ byte_piece (Mark b)) × (is_graphic b ≡ true)

-- by itself, whatever stands before it
alone : (rest : List ℕ) (b : ℕ) → netlist_piece true (b ∷ rest) ≡ byte_piece (Mark b) → netlist_piece false (b ∷ rest) ≡ byte_piece (Mark b)
    → (fresh : Bool) → netlist_piece fresh (b ∷ rest) ≡ byte_piece (Mark b)
alone rest b one other true = one
alone rest b one other false = other

each_alone : (rest : List ℕ) → AreAll (IsAlone rest) (codes "),;.[]{}:=")
unfolding netlist_piece
each_alone rest = (
  (alone rest 41 refl refl, refl),
  (
    (alone rest 44 refl refl, refl),
    (
      (alone rest 59 refl refl, refl),
      (
        (alone rest 46 refl refl, refl),
        (
          (alone rest 91 refl refl, refl),
          (
            (alone rest 93 refl refl, refl),
            (
              (alone rest 123 refl refl, refl),
              (
                (alone rest 125 refl refl, refl),
                (
                  (alone rest 58 refl refl, refl),
                  ((alone rest 61 refl refl, refl), tt),
                ),
              ),
            ),
          ),
        ),
      ),
    ),
  ),
)

open_piece : (fresh : Bool) (rest : List ℕ) → begins_with 42 rest ≡ false → netlist_piece fresh (40 ∷ rest) ≡ byte_piece (Mark 40)
unfolding netlist_piece
open_piece fresh rest e =
    pass (fresh && 40 == 96) _ _ _ (and_right fresh (40 == 96) refl)
    (pass (begins_with 42 rest && not (begins_with 41 (drop 1 rest))) _ _ _ (and_left (begins_with 42 rest) _ e) refl)

open_alone : (rest : List ℕ) → begins_with 42 rest ≡ false → IsAlone rest 40
open_alone rest e = (λ fresh. open_piece fresh rest e, refl)

mark_alone : (rest : List ℕ) (b : ℕ) → is_mark b rest ≡ true → IsAlone rest b
mark_alone rest b e = by (list_any (λ c. b == c) (codes "),;.[]{}:=")) refl (b == 40) refl (begins_with 42 rest) refl e
  where
    by : (a : Bool) → list_any (λ c. b == c) (codes "),;.[]{}:=") ≡ a → (o : Bool) → (b == 40) ≡ o → (s : Bool) → begins_with 42 rest ≡ s
        → (a || (o && not s)) ≡ true → IsAlone rest b
    by true is o _ s _ _ = one_among (IsAlone rest) b (codes "),;.[]{}:=") is (each_alone rest)
    by false _ true is false not_star _ = subst (IsAlone rest) (sym (equal b 40 is)) (open_alone rest not_star)
    by false _ true _ true _ e = absurd (false≢true e)
    by false _ false _ s _ e = absurd (false≢true e)

-- nothing that begins with another byte than a quote is a base
not_based : (bytes : List ℕ) → begins_with 39 bytes ≡ false → based bytes ≡ []
not_based [] e = refl
not_based (a ∷ []) e = refl
not_based (a ∷ base ∷ []) e = refl
not_based (a ∷ base ∷ b ∷ rest) e = pass (a == 39 && (is_base base && is_value_byte b)) _ _ _ (and_left (a == 39) _ e) refl

-- ---- graphic bytes

all_taken : (p q : ℕ → Bool) → ((b : ℕ) → p b ≡ true → q b ≡ true) → (xs : List ℕ) → list_all q (take_while p xs) ≡ true
all_taken p q imp [] = refl
all_taken p q imp (x ∷ xs) = ap (list_all q) (take_while-cons p x xs) ∙ by (p x) refl (all_taken p q imp xs)
  where
    by : (t : Bool) → p x ≡ t → list_all q (take_while p xs) ≡ true → list_all q (cond t (x ∷ take_while p xs) []) ≡ true
    by true is rest = and_from (q x) (list_all q (take_while p xs)) (imp x is) rest
    by false is rest = refl

some_taken : (p : ℕ → Bool) (b : ℕ) (rest : List ℕ) → p b ≡ true → 1 ≤ length (take_while p (b ∷ rest))
some_taken p b rest e =
    let l : length (take_while p (b ∷ rest)) ≡ suc (length (take_while p rest)) =
    ap length (take_while-cons p b rest ∙ chosen (p b) (b ∷ take_while p rest) [] e) in
    omega (arith, l)

-- ---- tokens

token_is : (t : Token NetlistClass) (class : NetlistClass) (shown : List ℕ) (line : ℕ) → t.class ≡ class → t.text ≡ shown → t.line ≡ line
    → (let u : Token NetlistClass = record { class = class; text = shown; line = line } in u ∷ []) ≡ t ∷ []
token_is t class shown line c s l = λ i. (let u : Token NetlistClass = record { class = sym c i; text = sym s i; line = sym l i } in u) ∷ []

module _ (text rest : List ℕ) (b line : ℕ) (t : Token NetlistClass) (split : text ≡ b ∷ rest) where
  made : (p : Piece NetlistPiece) → ((fresh : Bool) → netlist_piece fresh (b ∷ rest) ≡ p)
      → ((end : ℕ) → token_of end (record { what = p.what; line = line }) ≡ t ∷ []) → p.size ≡ length t.text
      → t.text ≡ take (length t.text) text → list_all is_graphic t.text ≡ true → 1 ≤ length t.text → IsDirect text line t
  made p piece token size front graphic some = record {
    token = λ end fresh. ap (λ (q : Piece NetlistPiece). token_of end (record { what = q.what; line = line })) (is fresh) ∙ token end;
    size = λ fresh. ap (λ (q : Piece NetlistPiece). q.size) (is fresh) ∙ size;
    front = front;
    graphic = graphic;
    some = some;
  }
    where
      is : (fresh : Bool) → netlist_piece fresh text ≡ p
      is fresh = ap (netlist_piece fresh) split ∙ piece fresh

  -- a run of bytes of one kind
  module _ (p : ℕ → Bool) (size : ℕ) (all : size ≡ length (take_while p text)) (front : t.text ≡ take size text) where
    shown : t.text ≡ take_while p text
    shown = front ∙ ap (λ (n : ℕ). take n text) all ∙ take_again _ text

    own_front : t.text ≡ take (length t.text) text
    own_front = shown ∙ sym (ap (λ (l : List ℕ). take (length l) text) shown ∙ take_again _ text)

    some_shown : p b ≡ true → 1 ≤ length t.text
    some_shown e = subst (λ (l : List ℕ). 1 ≤ length l) (sym (shown ∙ ap (take_while p) split)) (some_taken p b rest e)

    graphic_shown : ((c : ℕ) → p c ≡ true → is_graphic c ≡ true) → list_all is_graphic t.text ≡ true
    graphic_shown imp = ap (list_all is_graphic) shown ∙ all_taken p is_graphic imp text

  pub name_direct : (size : ℕ) → begins_name b ≡ true → size ≡ length (take_while is_name_byte text) → t.text ≡ take size text
      → t.class ≡ word_class t.text → t.line ≡ line → IsDirect text line t
  name_direct size e all front class on =
      let is : t.text ≡ take_while is_name_byte text = shown is_name_byte size all front in
      made (name_piece t.text)
      (λ fresh. name_there fresh b rest e ∙ ap (λ (l : List ℕ). name_piece (take_while is_name_byte l)) (sym split) ∙ ap name_piece (sym is))
      (λ end. token_is t (word_class t.text) t.text line class refl on) refl (own_front is_name_byte size all front)
      (graphic_shown is_name_byte size all front name_graphic)
      (some_shown is_name_byte size all front (first_holds (begins_name b || is_ascii_digit b) (b == 36) (first_holds (begins_name b) (is_ascii_digit b) e)))

  pub digits_direct : (size : ℕ) → is_ascii_digit b ≡ true → size ≡ length (take_while is_ascii_digit text)
      → begins_with 39 (drop size text) ≡ false → t.text ≡ take size text → t.class ≡ digits_class t.text → t.line ≡ line → IsDirect text line t
  digits_direct size e all stops front class on =
      let is : t.text ≡ digits_at text = shown is_ascii_digit size all front in
      let none : based (drop (length (digits_at text)) text) ≡ [] = not_based (drop (length (digits_at text)) text) (subst (λ (n : ℕ). begins_with 39 (drop n text) ≡ false) all stops) in
      made (digits_alone t.text)
      (λ fresh. number_there fresh b rest e
      ∙ ap (λ (l : List ℕ). number_piece (digits_at l) (based (drop (length (digits_at l)) l))) (sym split)
      ∙ ap (number_piece (digits_at text)) none ∙ ap digits_alone (sym is))
      (λ end. token_is t (digits_class t.text) t.text line class refl on) refl (own_front is_ascii_digit size all front)
      (graphic_shown is_ascii_digit size all front digit_graphic) (some_shown is_ascii_digit size all front e)

  pub mark_direct : is_mark b rest ≡ true → t.text ≡ take 1 text → t.class ≡ mark_class b → t.line ≡ line → IsDirect text line t
  mark_direct e front class on =
      let is : t.text ≡ b ∷ [] = front ∙ ap (take 1) split in
      let here = mark_alone rest b e in
      made (byte_piece (Mark b)) here.0 (λ end. token_is t (mark_class b) (b ∷ []) line class is on) (sym (ap length is))
      (front ∙ sym (ap (λ (l : List ℕ). take (length l) text) is)) (ap (list_all is_graphic) is ∙ and_from (is_graphic b) true here.1 refl)
      (subst (λ (l : List ℕ). 1 ≤ length l) (sym is) (omega arith))

-- ---- a step

pub direct_step : (text rest text2 : List ℕ) (place n place2 line : ℕ) (fresh fresh2 : Bool) (t : Token NetlistClass)
    → place < length text → rest ≡ drop place text → line ≡ line_at text place → IsDirect rest line t → n ≡ length t.text → text2 ≡ text → place2 ≡ place + n
    → fresh2 ≡ fresh_after fresh (take n (drop place text)) → tokens_from text place fresh ≡ (t ∷ []) ++ tokens_from text2 place2 fresh2
direct_step text rest text2 place n place2 line fresh fresh2 t lt back on is size same there later =
    let long : length t.text ≡ min (length t.text) (length rest) = ap length is.front ∙ length-take (length t.text) rest in
    word_step text rest text2 place n place2 line fresh fresh2 (netlist_piece fresh rest) (t ∷ []) lt back on refl
    (omega (arith, size, is.size fresh, is.some, long)) (sym (is.token (last_line text) fresh)) same there later

-- the bytes of the token, within the text
pub direct_within : (text rest : List ℕ) (place n line : ℕ) (t : Token NetlistClass) → place < length text → rest ≡ drop place text → IsDirect rest line t → n ≡ length t.text
    → place + n ≤ length text
direct_within text rest place n line t lt back is size =
    let long : length t.text ≡ min (length t.text) (length rest) = ap length is.front ∙ length-take (length t.text) rest in
    let l : length rest ≡ length text - place = ap length back ∙ length-drop place text in
    omega (arith, lt, size, long, l)

pub direct_graphic : (text rest : List ℕ) (place n line : ℕ) (t : Token NetlistClass) → rest ≡ drop place text → IsDirect rest line t → n ≡ length t.text
    → list_all is_graphic (take n (drop place text)) ≡ true
direct_graphic text rest place n line t back is size =
    ap (list_all is_graphic) (sym (is.front ∙ ap (λ (m : ℕ). take m rest) (sym size) ∙ ap (take n) back)) ∙ is.graphic

pub measured_direct : (text : List ℕ) (line : ℕ) (t : Token NetlistClass) → IsDirect text line t → IsNextMeasured (t ∷ [])
measured_direct text line t is = measured_piece (t ∷ []) 0 line true text (netlist_piece true text).what (sym (is.token 0 true)) refl
