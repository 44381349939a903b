-- The numbers of tokens are no greater than their classes let through.
use Rattle.std.proofs.Common.{◌≡◌, ℕ, ◌≤◌, ◌==◌, nat_le, Bool, true, false, not, ◌&&◌, cond, List, [], ◌∷◌, ◌++◌, Option, Some, None, length, drop, codes, refl, sym, ap, subst, ◌∙◌, arith}
use Rattle.std.proofs.lemmas.Bool.{false≢true}
use Rattle.std.proofs.lemmas.List.Sums.{take_while-cons}
use Rattle.std.specs.Char.{is_ascii_digit}
use Rattle.std.specs.List.{list_any, take_while}
use Rattle.list_defs.specs.Members.{same_name}
use Rattle.text_defs.specs.Pieces.{Piece, is_white, begins_with}
use Rattle.text_defs.specs.Tokens.{Token}
use Rattle.net_text.specs.NetlistClasses.{is_constant, is_number}
use Rattle.net_text.specs.NetlistTokens.{NetlistPiece, NetlistClass, netlist_piece, token_of, skipped_piece, escaped_piece, number_piece, number_of, is_width, is_graphic, digits_at, based, is_base, is_value_byte, begins_name, word_class, left_out_words, mark_class, digits_class}
use Rattle.net_text.specs.Sizes.{IsMeasured, IsNextMeasured, IsSized}
use Rattle.net_text.specs.TokenViews.{class_view, test_of}
use Rattle.net_text.specs.declared.classes.NetClass.{NetClass}
use Rattle.net_text.specs.declared.classes.NetClass.TheVariants as made

either : {A : Type 0} (P : A → Type 0) (b : Bool) (x y : A) → (b ≡ true → P x) → (b ≡ false → P y) → P (cond b x y)
either P true x y f g = f refl
either P false x y f g = g refl

equal : (a b : ℕ) → (a == b) ≡ true → a ≡ b
equal a b e = grind arith

at_most : (a b : ℕ) → nat_le a b ≡ true → a ≤ b
at_most a b e = grind arith

and_both : (a b : Bool) → (a && b) ≡ true → (a ≡ true) × (b ≡ true)
and_both true b e = (refl, e)
and_both false b e = absurd (false≢true e)

-- ---- constants

-- what is taken ends where it ended before something that is not taken
taken_again : (p : ℕ → Bool) (xs : List ℕ) (b : ℕ) (ys : List ℕ) → p b ≡ false → take_while p (take_while p xs ++ b ∷ ys) ≡ take_while p xs
taken_again p [] b ys e = take_while-cons p b ys ∙ ap (λ (t : Bool). cond t (b ∷ take_while p ys) []) e
taken_again p (x ∷ xs) b ys e =
    ap (λ (l : List ℕ). take_while p (l ++ b ∷ ys)) (take_while-cons p x xs) ∙ by (taken_again p xs b ys e) (p x) refl ∙ sym (take_while-cons p x xs)
  where
    by : take_while p (take_while p xs ++ b ∷ ys) ≡ take_while p xs → (t : Bool) → p x ≡ t → take_while p (cond t (x ∷ take_while p xs) [] ++ b ∷ ys) ≡ cond t (x ∷ take_while p xs) []
    by again true is =
        take_while-cons p x (take_while p xs ++ b ∷ ys)
        ∙ ap (λ (t : Bool). cond t (x ∷ take_while p (take_while p xs ++ b ∷ ys)) []) is
        ∙ ap (λ (l : List ℕ). x ∷ l) again
    by again false is = take_while-cons p b ys ∙ ap (λ (t : Bool). cond t (b ∷ take_while p ys) []) e

-- a base begins with a quote
abbrev IsQuoted : List ℕ → Type 0
IsQuoted [] = Unit {0}
IsQuoted (b ∷ rest) = is_ascii_digit b ≡ false

quoted : (bytes : List ℕ) → IsQuoted (based bytes)
quoted [] = tt
quoted (a ∷ []) = tt
quoted (a ∷ b ∷ []) = tt
quoted (a ∷ base ∷ b ∷ rest) =
    either IsQuoted (a == 39 && (is_base base && is_value_byte b)) _ _
    (λ e. ap is_ascii_digit (equal a 39 (and_both (a == 39) (is_base base && is_value_byte b) e).0)) (λ _. tt)

sized_number : (bytes more : List ℕ) → IsQuoted more → IsSized (number_piece (digits_at bytes) more).what
sized_number bytes [] quote = tt
sized_number bytes (b ∷ more) quote =
    either (λ (p : Piece NetlistPiece). IsSized p.what) (is_width (digits_at bytes)) _ _
    (λ e. subst (λ (l : List ℕ). number_of l ≤ 65536) (sym (taken_again is_ascii_digit bytes b more quote))
    (at_most (number_of (digits_at bytes)) 65536 (and_both (nat_le 1 (number_of (digits_at bytes))) (nat_le (number_of (digits_at bytes)) 65536) e).1))
    (λ _. tt)

sized_skipped : (behind : List ℕ) (closed : Option ℕ) → IsSized (skipped_piece behind closed).what
sized_skipped behind None = tt
sized_skipped behind (Some n) = tt

sized_escaped : (name rest : List ℕ) → IsSized (escaped_piece name rest).what
sized_escaped name [] = tt
sized_escaped [] (c ∷ rest) = tt
sized_escaped (d ∷ name) (c ∷ rest) = either (λ (p : Piece NetlistPiece). IsSized p.what) (is_white c) _ _ (λ _. tt) (λ _. tt)

sized_at : (fresh : Bool) (text : List ℕ) → IsSized (netlist_piece fresh text).what
unfolding netlist_piece
sized_at fresh [] = tt
sized_at fresh (b ∷ rest) =
    let P : Piece NetlistPiece → Type 0 = λ p. IsSized p.what in
    either P (is_white b) _ _ (λ _. tt) (λ _.
    either P (fresh && b == 96) _ _ (λ _. tt) (λ _.
    either P (b == 47 && begins_with 47 rest) _ _ (λ _. tt) (λ _.
    either P (b == 47 && begins_with 42 rest) _ _ (λ _. sized_skipped _ _) (λ _.
    either P (b == 40 && (begins_with 42 rest && not (begins_with 41 (drop 1 rest)))) _ _ (λ _. sized_skipped _ _) (λ _.
    either P (begins_name b) _ _ (λ _. tt) (λ _.
    either P (b == 92) _ _ (λ _. sized_escaped (take_while is_graphic rest) (drop (length (take_while is_graphic rest)) rest)) (λ _.
    either P (is_ascii_digit b) _ _ (λ _. sized_number (b ∷ rest) (based (drop (length (digits_at (b ∷ rest))) (b ∷ rest))) (quoted (drop (length (digits_at (b ∷ rest))) (b ∷ rest)))) (λ _. tt))))))))

-- ---- tokens

measured_word : (word : List ℕ) → IsMeasured (word_class word) word
unfolding word_class
measured_word word =
    let P : NetlistClass → Type 0 = λ c. IsMeasured c word in
    either P (same_name word (codes "module")) _ _ (λ _. tt) (λ _. either P (same_name word (codes "endmodule")) _ _ (λ _. tt) (λ _. either P (same_name word (codes "input")) _ _ (λ _. tt) (λ _. either P (same_name word (codes "output")) _ _ (λ _. tt) (λ _. either P (same_name word (codes "inout")) _ _ (λ _. tt) (λ _. either P (same_name word (codes "wire")) _ _ (λ _. tt) (λ _. either P (same_name word (codes "assign")) _ _ (λ _. tt) (λ _. either P (list_any (same_name word) left_out_words) _ _ (λ _. tt) (λ _. tt))))))))

measured_mark : (b : ℕ) → IsMeasured (mark_class b) (b ∷ [])
measured_mark b =
    let P : NetlistClass → Type 0 = λ c. IsMeasured c (b ∷ []) in
    either P (b == 40) _ _ (λ _. tt) (λ _. either P (b == 41) _ _ (λ _. tt) (λ _. either P (b == 91) _ _ (λ _. tt) (λ _. either P (b == 93) _ _ (λ _. tt) (λ _. either P (b == 123) _ _ (λ _. tt) (λ _. either P (b == 125) _ _ (λ _. tt) (λ _. either P (b == 44) _ _ (λ _. tt) (λ _. either P (b == 46) _ _ (λ _. tt) (λ _. either P (b == 58) _ _ (λ _. tt) (λ _. either P (b == 59) _ _ (λ _. tt) (λ _. either P (b == 61) _ _ (λ _. tt) (λ _. tt)))))))))))

measured_digits : (digits : List ℕ) → IsMeasured (digits_class digits) digits
measured_digits digits =
    either (λ (c : NetlistClass). IsMeasured c digits) (nat_le (number_of digits) 65535) _ _ (at_most (number_of digits) 65535) (λ _. tt)

measured_token : (end line : ℕ) (what : NetlistPiece) → IsSized what → IsNextMeasured (token_of end (record { what = what; line = line }))
measured_token end line NetlistPiece.Skipped h = tt
measured_token end line (NetlistPiece.Plain word) h = measured_word word
measured_token end line (NetlistPiece.Escaped name) h = tt
measured_token end line (NetlistPiece.Digits digits) h = measured_digits digits
measured_token end line (NetlistPiece.Constant text) h = h
measured_token end line (NetlistPiece.Mark b) h = measured_mark b
measured_token end line NetlistPiece.Unclosed h = tt

-- the token of a piece of a text
pub measured_piece : (word : List (Token NetlistClass)) (end line : ℕ) (fresh : Bool) (text : List ℕ) (what : NetlistPiece)
    → word ≡ token_of end (record { what = what; line = line }) → what ≡ (netlist_piece fresh text).what → IsNextMeasured word
measured_piece word end line fresh text what is of =
    subst IsNextMeasured (sym is) (measured_token end line what (subst IsSized (sym of) (sized_at fresh text)))

-- a token of a class has the measure of the class
pub measured_there : (c : NetClass) (d : NetlistClass) (text : List ℕ) → test_of c d ≡ true → IsMeasured d text → IsMeasured (class_view c) text
measured_there made.Number d text e h = number d e h
  where
    number : (d : NetlistClass) → is_number d ≡ true → IsMeasured d text → number_of text ≤ 65535
    number NetlistClass.Module e h = absurd (false≢true e)
    number NetlistClass.Endmodule e h = absurd (false≢true e)
    number NetlistClass.Input e h = absurd (false≢true e)
    number NetlistClass.Output e h = absurd (false≢true e)
    number NetlistClass.Wire e h = absurd (false≢true e)
    number NetlistClass.Assign e h = absurd (false≢true e)
    number NetlistClass.Name e h = absurd (false≢true e)
    number NetlistClass.Number e h = h
    number NetlistClass.Constant e h = absurd (false≢true e)
    number NetlistClass.Open e h = absurd (false≢true e)
    number NetlistClass.Shut e h = absurd (false≢true e)
    number NetlistClass.LeftBracket e h = absurd (false≢true e)
    number NetlistClass.RightBracket e h = absurd (false≢true e)
    number NetlistClass.LeftBrace e h = absurd (false≢true e)
    number NetlistClass.RightBrace e h = absurd (false≢true e)
    number NetlistClass.Comma e h = absurd (false≢true e)
    number NetlistClass.Dot e h = absurd (false≢true e)
    number NetlistClass.Colon e h = absurd (false≢true e)
    number NetlistClass.Semicolon e h = absurd (false≢true e)
    number NetlistClass.Equals e h = absurd (false≢true e)
    number NetlistClass.Inout e h = absurd (false≢true e)
    number NetlistClass.LeftOut e h = absurd (false≢true e)
    number NetlistClass.Stray e h = absurd (false≢true e)
measured_there made.Constant d text e h = constant d e h
  where
    constant : (d : NetlistClass) → is_constant d ≡ true → IsMeasured d text → number_of (digits_at text) ≤ 65536
    constant NetlistClass.Module e h = absurd (false≢true e)
    constant NetlistClass.Endmodule e h = absurd (false≢true e)
    constant NetlistClass.Input e h = absurd (false≢true e)
    constant NetlistClass.Output e h = absurd (false≢true e)
    constant NetlistClass.Wire e h = absurd (false≢true e)
    constant NetlistClass.Assign e h = absurd (false≢true e)
    constant NetlistClass.Name e h = absurd (false≢true e)
    constant NetlistClass.Number e h = absurd (false≢true e)
    constant NetlistClass.Constant e h = h
    constant NetlistClass.Open e h = absurd (false≢true e)
    constant NetlistClass.Shut e h = absurd (false≢true e)
    constant NetlistClass.LeftBracket e h = absurd (false≢true e)
    constant NetlistClass.RightBracket e h = absurd (false≢true e)
    constant NetlistClass.LeftBrace e h = absurd (false≢true e)
    constant NetlistClass.RightBrace e h = absurd (false≢true e)
    constant NetlistClass.Comma e h = absurd (false≢true e)
    constant NetlistClass.Dot e h = absurd (false≢true e)
    constant NetlistClass.Colon e h = absurd (false≢true e)
    constant NetlistClass.Semicolon e h = absurd (false≢true e)
    constant NetlistClass.Equals e h = absurd (false≢true e)
    constant NetlistClass.Inout e h = absurd (false≢true e)
    constant NetlistClass.LeftOut e h = absurd (false≢true e)
    constant NetlistClass.Stray e h = absurd (false≢true e)
measured_there made.Module d text e h = tt
measured_there made.Endmodule d text e h = tt
measured_there made.Input d text e h = tt
measured_there made.Output d text e h = tt
measured_there made.Wire d text e h = tt
measured_there made.Assign d text e h = tt
measured_there made.Name d text e h = tt
measured_there made.Open d text e h = tt
measured_there made.Shut d text e h = tt
measured_there made.LeftBracket d text e h = tt
measured_there made.RightBracket d text e h = tt
measured_there made.LeftBrace d text e h = tt
measured_there made.RightBrace d text e h = tt
measured_there made.Comma d text e h = tt
measured_there made.Dot d text e h = tt
measured_there made.Colon d text e h = tt
measured_there made.Semicolon d text e h = tt
measured_there made.Equals d text e h = tt
measured_there made.Inout d text e h = tt
measured_there made.LeftOut d text e h = tt
measured_there made.Stray d text e h = tt
