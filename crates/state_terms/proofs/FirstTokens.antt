-- The first word or mark of a text, by its first bytes.
use Rattle.std.proofs.Common.{◌≡◌, ◌≢◌, ℕ, MatchOption, MatchBool, Bool, true, false, not, ◌||◌, List, [], ◌∷◌, ◌++◌, ◌==◌, Option, Some, None, ◌<◌, ◌≤◌, length, refl, sym, ◌∙◌, ap, subst, arith}
use Rattle.std.proofs.lemmas.Bool.{false≢true, ne_eqb}
use Rattle.std.specs.Borrow.{Bor}
use Rattle.std.proofs.lemmas.List.{length-append}
use Rattle.std.specs.List.{list_all}
use Rattle.tcl_words.specs.Pieces.{is_white}
use Rattle.tcl_words.proofs.VariableNames.{and_first, and_second}
use Rattle.power_states.specs.ExpressionWords.{Token, word, opens, shuts, bang, both, either, same, differs, brace, unbrace, comma, quote, is_mark, is_word_byte, begins_with, HasTokens, none, white, a_word, an_opens, a_shuts, a_bang, a_differs, a_both, an_either, a_same, a_brace, an_unbrace, a_comma, a_quote}
use Rattle.power_states.proofs.TokenReading.{front_is, word_front}
use Rattle.state_terms.specs.Readings.{Begins, BeginsNot}
use Rattle.state_terms.specs.declared.words.Mark.{Mark}
use Rattle.state_terms.specs.declared.words.Mark.TheVariants.{Opens, Shuts, Bang, Both, Either, Same, Differs, Brace, Unbrace, Comma, Quote}
use Rattle.state_terms.specs.Marks.{token_of, is_word, BeginsWithNoMark, BeginsWithNoWord, HaveSameTokens}

-- the first byte of a word is neither white space nor a mark
neither : (w m : Bool) → not (w || m) ≡ true → (w ≡ false) × (m ≡ false)
neither true m h = absurd (false≢true h)
neither false true h = absurd (false≢true h)
neither false false h = (refl, refl)

no_white_word : (b : ℕ) (more : List ℕ) → list_all is_word_byte (b ∷ more) ≡ true → is_white b ≡ true → ⊥
no_white_word b more each white_there =
    let plain = neither (is_white b) (is_mark b) (and_first (is_word_byte b) (list_all is_word_byte more) each) in
    false≢true (sym plain.0 ∙ white_there)

no_mark_word : (b : ℕ) (more : List ℕ) → list_all is_word_byte (b ∷ more) ≡ true → is_mark b ≡ true → ⊥
no_mark_word b more each mark_there =
    let plain = neither (is_white b) (is_mark b) (and_first (is_word_byte b) (list_all is_word_byte more) each) in
    false≢true (sym plain.1 ∙ mark_there)

-- white space in front changes nothing
white_back : (b : ℕ) (rest : List ℕ) (tokens : List Token) → is_white b ≡ true → HasTokens (b ∷ rest) tokens → HasTokens rest tokens
white_back b rest tokens e (white c r ts w h) = h
white_back b rest tokens e (a_word c more r ts each stop h) = absurd (no_white_word c more each e)
white_back b rest tokens e (an_opens r ts h) = absurd (false≢true e)
white_back b rest tokens e (a_shuts r ts h) = absurd (false≢true e)
white_back b rest tokens e (a_bang r ts stop h) = absurd (false≢true e)
white_back b rest tokens e (a_differs r ts h) = absurd (false≢true e)
white_back b rest tokens e (a_both r ts h) = absurd (false≢true e)
white_back b rest tokens e (an_either r ts h) = absurd (false≢true e)
white_back b rest tokens e (a_same r ts h) = absurd (false≢true e)
white_back b rest tokens e (a_brace r ts h) = absurd (false≢true e)
white_back b rest tokens e (an_unbrace r ts h) = absurd (false≢true e)
white_back b rest tokens e (a_comma r ts h) = absurd (false≢true e)
white_back b rest tokens e (a_quote r ts h) = absurd (false≢true e)

pub same_text : (text : List ℕ) → HaveSameTokens text text
same_text text = record { on = λ tokens h. h; back = λ tokens h. h }

same_behind_white : (b : ℕ) (rest whole : List ℕ) → is_white b ≡ true → HaveSameTokens (b ∷ rest) whole → HaveSameTokens rest whole
same_behind_white b rest whole e h =
    record { on = λ tokens k. h.on tokens (white b rest tokens e k); back = λ tokens k. white_back b rest tokens e (h.back tokens k) }

abbrev pub IsLeftOf : List ℕ → List ℕ → Type 0
IsLeftOf rest whole = HaveSameTokens rest whole × (length rest ≤ length whole)

pub white_step : (rest more whole : List ℕ) (b : ℕ) → rest ≡ b ∷ more → is_white b ≡ true → IsLeftOf rest whole → IsLeftOf more whole
white_step rest more whole b e w h =
    let there : IsLeftOf (b ∷ more) whole = subst (λ (t : List ℕ). IsLeftOf t whole) e h in
    (same_behind_white b more whole w there.0, omega arith)

pub ink_here : (rest more : List ℕ) (b : ℕ) → rest ≡ b ∷ more → is_white b ≡ false → begins_with is_white rest ≡ false
ink_here rest more b e w = ap (begins_with is_white) e ∙ w

pub ink_at_end : (rest : List ℕ) → length rest ≡ 0 → begins_with is_white rest ≡ false
ink_at_end [] e = refl
ink_at_end (b ∷ rest) e = cc

-- the marks of one byte
opens_back : (rest : List ℕ) (tokens : List Token) → HasTokens (40 ∷ rest) tokens → (more : List Token) × (tokens ≡ opens ∷ more) × HasTokens rest more
opens_back rest tokens (white b r ts e h) = absurd (false≢true e)
opens_back rest tokens (a_word b more r ts each stop h) = absurd (no_mark_word 40 more each refl)
opens_back rest tokens (an_opens r ts h) = (ts, refl, h)

pub opens_first : (rest : List ℕ) → Begins (40 ∷ rest) opens rest
opens_first rest = record { shorter = omega arith; on = λ more h. an_opens rest more h; back = opens_back rest }

shuts_back : (rest : List ℕ) (tokens : List Token) → HasTokens (41 ∷ rest) tokens → (more : List Token) × (tokens ≡ shuts ∷ more) × HasTokens rest more
shuts_back rest tokens (white b r ts e h) = absurd (false≢true e)
shuts_back rest tokens (a_word b more r ts each stop h) = absurd (no_mark_word 41 more each refl)
shuts_back rest tokens (a_shuts r ts h) = (ts, refl, h)

pub shuts_first : (rest : List ℕ) → Begins (41 ∷ rest) shuts rest
shuts_first rest = record { shorter = omega arith; on = λ more h. a_shuts rest more h; back = shuts_back rest }

brace_back : (rest : List ℕ) (tokens : List Token) → HasTokens (123 ∷ rest) tokens → (more : List Token) × (tokens ≡ brace ∷ more) × HasTokens rest more
brace_back rest tokens (white b r ts e h) = absurd (false≢true e)
brace_back rest tokens (a_word b more r ts each stop h) = absurd (no_mark_word 123 more each refl)
brace_back rest tokens (a_brace r ts h) = (ts, refl, h)

pub brace_first : (rest : List ℕ) → Begins (123 ∷ rest) brace rest
brace_first rest = record { shorter = omega arith; on = λ more h. a_brace rest more h; back = brace_back rest }

unbrace_back : (rest : List ℕ) (tokens : List Token) → HasTokens (125 ∷ rest) tokens → (more : List Token) × (tokens ≡ unbrace ∷ more) × HasTokens rest more
unbrace_back rest tokens (white b r ts e h) = absurd (false≢true e)
unbrace_back rest tokens (a_word b more r ts each stop h) = absurd (no_mark_word 125 more each refl)
unbrace_back rest tokens (an_unbrace r ts h) = (ts, refl, h)

pub unbrace_first : (rest : List ℕ) → Begins (125 ∷ rest) unbrace rest
unbrace_first rest = record { shorter = omega arith; on = λ more h. an_unbrace rest more h; back = unbrace_back rest }

comma_back : (rest : List ℕ) (tokens : List Token) → HasTokens (44 ∷ rest) tokens → (more : List Token) × (tokens ≡ comma ∷ more) × HasTokens rest more
comma_back rest tokens (white b r ts e h) = absurd (false≢true e)
comma_back rest tokens (a_word b more r ts each stop h) = absurd (no_mark_word 44 more each refl)
comma_back rest tokens (a_comma r ts h) = (ts, refl, h)

pub comma_first : (rest : List ℕ) → Begins (44 ∷ rest) comma rest
comma_first rest = record { shorter = omega arith; on = λ more h. a_comma rest more h; back = comma_back rest }

quote_back : (rest : List ℕ) (tokens : List Token) → HasTokens (96 ∷ rest) tokens → (more : List Token) × (tokens ≡ quote ∷ more) × HasTokens rest more
quote_back rest tokens (white b r ts e h) = absurd (false≢true e)
quote_back rest tokens (a_word b more r ts each stop h) = absurd (no_mark_word 96 more each refl)
quote_back rest tokens (a_quote r ts h) = (ts, refl, h)

pub quote_first : (rest : List ℕ) → Begins (96 ∷ rest) quote rest
quote_first rest = record { shorter = omega arith; on = λ more h. a_quote rest more h; back = quote_back rest }

-- the marks of two bytes, and `!`
rest_is : (a : ℕ) (xs ys : List ℕ) → a ∷ xs ≡ a ∷ ys → xs ≡ ys
rest_is a xs ys e = cc

both_back : (text rest : List ℕ) (tokens : List Token) → text ≡ 38 ∷ rest → HasTokens (38 ∷ text) tokens
    → (more : List Token) × (tokens ≡ both ∷ more) × HasTokens rest more
both_back text rest tokens is (white b r ts e h) = absurd (false≢true e)
both_back text rest tokens is (a_word b more r ts each stop h) = absurd (no_mark_word 38 more each refl)
both_back text rest tokens is (a_both r ts h) = (ts, refl, subst (λ (t : List ℕ). HasTokens t ts) (rest_is 38 r rest is) h)

pub both_first : (rest : List ℕ) → Begins (38 ∷ 38 ∷ rest) both rest
both_first rest = record { shorter = omega arith; on = λ more h. a_both rest more h; back = λ tokens h. both_back (38 ∷ rest) rest tokens refl h }

pub no_both : (rest : List ℕ) (tokens : List Token) → begins_with (λ b. b == 38) rest ≡ false → HasTokens (38 ∷ rest) tokens → ⊥
no_both rest tokens alone (white b r ts e h) = false≢true e
no_both rest tokens alone (a_word b more r ts each stop h) = no_mark_word 38 more each refl
no_both rest tokens alone (a_both r ts h) = false≢true (sym alone)

either_back : (text rest : List ℕ) (tokens : List Token) → text ≡ 124 ∷ rest → HasTokens (124 ∷ text) tokens
    → (more : List Token) × (tokens ≡ either ∷ more) × HasTokens rest more
either_back text rest tokens is (white b r ts e h) = absurd (false≢true e)
either_back text rest tokens is (a_word b more r ts each stop h) = absurd (no_mark_word 124 more each refl)
either_back text rest tokens is (an_either r ts h) = (ts, refl, subst (λ (t : List ℕ). HasTokens t ts) (rest_is 124 r rest is) h)

pub either_first : (rest : List ℕ) → Begins (124 ∷ 124 ∷ rest) either rest
either_first rest = record { shorter = omega arith; on = λ more h. an_either rest more h; back = λ tokens h. either_back (124 ∷ rest) rest tokens refl h }

pub no_either : (rest : List ℕ) (tokens : List Token) → begins_with (λ b. b == 124) rest ≡ false → HasTokens (124 ∷ rest) tokens → ⊥
no_either rest tokens alone (white b r ts e h) = false≢true e
no_either rest tokens alone (a_word b more r ts each stop h) = no_mark_word 124 more each refl
no_either rest tokens alone (an_either r ts h) = false≢true (sym alone)

same_back : (text rest : List ℕ) (tokens : List Token) → text ≡ 61 ∷ rest → HasTokens (61 ∷ text) tokens
    → (more : List Token) × (tokens ≡ same ∷ more) × HasTokens rest more
same_back text rest tokens is (white b r ts e h) = absurd (false≢true e)
same_back text rest tokens is (a_word b more r ts each stop h) = absurd (no_mark_word 61 more each refl)
same_back text rest tokens is (a_same r ts h) = (ts, refl, subst (λ (t : List ℕ). HasTokens t ts) (rest_is 61 r rest is) h)

pub same_first : (rest : List ℕ) → Begins (61 ∷ 61 ∷ rest) same rest
same_first rest = record { shorter = omega arith; on = λ more h. a_same rest more h; back = λ tokens h. same_back (61 ∷ rest) rest tokens refl h }

pub no_same : (rest : List ℕ) (tokens : List Token) → begins_with (λ b. b == 61) rest ≡ false → HasTokens (61 ∷ rest) tokens → ⊥
no_same rest tokens alone (white b r ts e h) = false≢true e
no_same rest tokens alone (a_word b more r ts each stop h) = no_mark_word 61 more each refl
no_same rest tokens alone (a_same r ts h) = false≢true (sym alone)

differs_back : (text rest : List ℕ) (tokens : List Token) → text ≡ 61 ∷ rest → HasTokens (33 ∷ text) tokens
    → (more : List Token) × (tokens ≡ differs ∷ more) × HasTokens rest more
differs_back text rest tokens is (white b r ts e h) = absurd (false≢true e)
differs_back text rest tokens is (a_word b more r ts each stop h) = absurd (no_mark_word 33 more each refl)
differs_back text rest tokens is (a_bang r ts stop h) = absurd (false≢true (sym stop ∙ ap (begins_with (λ b. b == 61)) is))
differs_back text rest tokens is (a_differs r ts h) = (ts, refl, subst (λ (t : List ℕ). HasTokens t ts) (rest_is 61 r rest is) h)

pub differs_first : (rest : List ℕ) → Begins (33 ∷ 61 ∷ rest) differs rest
differs_first rest = record { shorter = omega arith; on = λ more h. a_differs rest more h; back = λ tokens h. differs_back (61 ∷ rest) rest tokens refl h }

bang_back : (rest : List ℕ) (tokens : List Token) → begins_with (λ b. b == 61) rest ≡ false → HasTokens (33 ∷ rest) tokens
    → (more : List Token) × (tokens ≡ bang ∷ more) × HasTokens rest more
bang_back rest tokens alone (white b r ts e h) = absurd (false≢true e)
bang_back rest tokens alone (a_word b more r ts each stop h) = absurd (no_mark_word 33 more each refl)
bang_back rest tokens alone (a_bang r ts stop h) = (ts, refl, h)
bang_back rest tokens alone (a_differs r ts h) = absurd (false≢true (sym alone))

pub bang_first : (rest : List ℕ) → begins_with (λ b. b == 61) rest ≡ false → Begins (33 ∷ rest) bang rest
bang_first rest alone = record { shorter = omega arith; on = λ more h. a_bang rest more alone h; back = λ tokens h. bang_back rest tokens alone h }

-- an empty text has neither words nor marks
none_first : (first : Token) (more : List Token) → HasTokens [] (first ∷ more) → ⊥
none_first first more h = elim h [ ]

pub no_mark_at_end : BeginsWithNoMark []
no_mark_at_end first more h = absurd (none_first first more h)

pub no_word_at_end : BeginsWithNoWord []
no_word_at_end bytes more h = none_first (word bytes) more h

-- words
word_there : (b : ℕ) (rest : List ℕ) (first : Token) (more : List Token) → is_white b ≡ false → is_mark b ≡ false → HasTokens (b ∷ rest) (first ∷ more)
    → is_word first ≡ true
word_there b rest first more ink plain (white c r ts e h) = absurd (false≢true (sym ink ∙ e))
word_there b rest first more ink plain (a_word c front r ts each stop h) = refl
word_there b rest first more ink plain (an_opens r ts h) = absurd (false≢true (sym plain))
word_there b rest first more ink plain (a_shuts r ts h) = absurd (false≢true (sym plain))
word_there b rest first more ink plain (a_bang r ts stop h) = absurd (false≢true (sym plain))
word_there b rest first more ink plain (a_differs r ts h) = absurd (false≢true (sym plain))
word_there b rest first more ink plain (a_both r ts h) = absurd (false≢true (sym plain))
word_there b rest first more ink plain (an_either r ts h) = absurd (false≢true (sym plain))
word_there b rest first more ink plain (a_same r ts h) = absurd (false≢true (sym plain))
word_there b rest first more ink plain (a_brace r ts h) = absurd (false≢true (sym plain))
word_there b rest first more ink plain (an_unbrace r ts h) = absurd (false≢true (sym plain))
word_there b rest first more ink plain (a_comma r ts h) = absurd (false≢true (sym plain))
word_there b rest first more ink plain (a_quote r ts h) = absurd (false≢true (sym plain))

pub no_mark_first : (b : ℕ) (rest : List ℕ) → is_white b ≡ false → is_mark b ≡ false → BeginsWithNoMark (b ∷ rest)
no_mark_first b rest ink plain first more h = word_there b rest first more ink plain h

-- a word begins with a byte of words
word_byte : (text bytes : List ℕ) (more : List Token) → begins_with is_white text ≡ false → HasTokens text (word bytes ∷ more) → begins_with is_word_byte text ≡ true
word_byte text bytes more ink (white b r ts e h) = absurd (false≢true (sym ink ∙ e))
word_byte text bytes more ink (a_word b front r ts each stop h) = and_first (is_word_byte b) (list_all is_word_byte front) each

pub no_word_first : (text : List ℕ) → begins_with is_white text ≡ false → begins_with is_word_byte text ≡ false → BeginsWithNoWord text
no_word_first text ink stop bytes more h = false≢true (sym stop ∙ word_byte text bytes more ink h)

abbrev IsWordBack : List ℕ → List ℕ → List Token → Type 0
IsWordBack front left tokens = (more : List Token) × (tokens ≡ word front ∷ more) × HasTokens left more

word_back : (text front left : List ℕ) (tokens : List Token) → text ≡ front ++ left → begins_with is_white text ≡ false → begins_with is_word_byte text ≡ true
    → word_front text ≡ (front, left) → HasTokens text tokens → IsWordBack front left tokens
word_back text front left tokens parts ink begun cut none = absurd (false≢true begun)
word_back text front left tokens parts ink begun cut (white b r ts e h) = absurd (false≢true (sym ink ∙ e))
word_back text front left tokens parts ink begun cut (a_word b more r ts each stop h) =
    let found : word_front (b ∷ more ++ r) ≡ (b ∷ more, r) = front_is (b ∷ more) r each stop in
    (ts, ap (λ (p : List ℕ × List ℕ). word p.0 ∷ ts) (sym found ∙ cut), subst (λ (p : List ℕ × List ℕ). HasTokens p.1 ts) (sym found ∙ cut) h)
word_back text front left tokens parts ink begun cut (an_opens r ts h) = absurd (false≢true begun)
word_back text front left tokens parts ink begun cut (a_shuts r ts h) = absurd (false≢true begun)
word_back text front left tokens parts ink begun cut (a_bang r ts stop h) = absurd (false≢true begun)
word_back text front left tokens parts ink begun cut (a_differs r ts h) = absurd (false≢true begun)
word_back text front left tokens parts ink begun cut (a_both r ts h) = absurd (false≢true begun)
word_back text front left tokens parts ink begun cut (an_either r ts h) = absurd (false≢true begun)
word_back text front left tokens parts ink begun cut (a_same r ts h) = absurd (false≢true begun)
word_back text front left tokens parts ink begun cut (a_brace r ts h) = absurd (false≢true begun)
word_back text front left tokens parts ink begun cut (an_unbrace r ts h) = absurd (false≢true begun)
word_back text front left tokens parts ink begun cut (a_comma r ts h) = absurd (false≢true begun)
word_back text front left tokens parts ink begun cut (a_quote r ts h) = absurd (false≢true begun)

word_on : (front left : List ℕ) (more : List Token) → list_all is_word_byte front ≡ true → begins_with is_word_byte left ≡ false → 0 < length front
    → HasTokens left more → HasTokens (front ++ left) (word front ∷ more)
word_on [] left more each stop some h = absurd (omega arith)
word_on (b ∷ front) left more each stop some h = a_word b front left more each stop h

begun_word : (front left : List ℕ) → list_all is_word_byte front ≡ true → 0 < length front → begins_with is_word_byte (front ++ left) ≡ true
begun_word [] left each some = absurd (omega arith)
begun_word (b ∷ front) left each some = and_first (is_word_byte b) (list_all is_word_byte front) each

pub word_first : (text front left : List ℕ) → text ≡ front ++ left → begins_with is_white text ≡ false → list_all is_word_byte front ≡ true
    → begins_with is_word_byte left ≡ false → 0 < length front → Begins text (word front) left
word_first text front left parts ink each stop some =
    record {
      shorter = subst (λ (t : List ℕ). length left < length t) (sym parts) (omega (arith, length-append front left));
      on = λ more h. subst (λ (t : List ℕ). HasTokens t (word front ∷ more)) (sym parts) (word_on front left more each stop some h);
      back = λ tokens h.
          word_back text front left tokens parts ink
          (subst (λ (t : List ℕ). begins_with is_word_byte t ≡ true) (sym parts) (begun_word front left each some))
          (subst (λ (t : List ℕ). word_front t ≡ (front, left)) (sym parts) (front_is front left each stop)) h;
    }

-- what the text begins with, seen behind white space
pub begins_behind : (text whole left : List ℕ) (first : Token) → HaveSameTokens text whole → length text ≤ length whole → Begins text first left
    → Begins whole first left
begins_behind text whole left first same_tokens less h =
    record {
      shorter = (let less_here : length left < length text = h.shorter in omega arith);
      on = λ more k. same_tokens.on (first ∷ more) (h.on more k);
      back = λ tokens k. h.back tokens (same_tokens.back tokens k);
    }

pub no_word_behind : (text whole : List ℕ) → HaveSameTokens text whole → BeginsWithNoWord text → BeginsWithNoWord whole
no_word_behind text whole same_tokens h bytes more k = h bytes more (same_tokens.back (word bytes ∷ more) k)

-- the marks of a grammar as the code has them
mark_in : Token → Option Mark
mark_in (word text) = None
mark_in opens = Some Opens
mark_in shuts = Some Shuts
mark_in bang = Some Bang
mark_in both = Some Both
mark_in either = Some Either
mark_in same = Some Same
mark_in differs = Some Differs
mark_in brace = Some Brace
mark_in unbrace = Some Unbrace
mark_in comma = Some Comma
mark_in quote = Some Quote

mark_found : (mark : Mark) → mark_in (token_of mark) ≡ Some mark
unfolding mark_in
mark_found Opens = refl
mark_found Shuts = refl
mark_found Bang = refl
mark_found Both = refl
mark_found Either = refl
mark_found Same = refl
mark_found Differs = refl
mark_found Brace = refl
mark_found Unbrace = refl
mark_found Comma = refl
mark_found Quote = refl

mark_no_word : (mark : Mark) → is_word (token_of mark) ≡ false
mark_no_word Opens = refl
mark_no_word Shuts = refl
mark_no_word Bang = refl
mark_no_word Both = refl
mark_no_word Either = refl
mark_no_word Same = refl
mark_no_word Differs = refl
mark_no_word Brace = refl
mark_no_word Unbrace = refl
mark_no_word Comma = refl
mark_no_word Quote = refl

one_mark : (found sought : Mark) → token_of sought ≡ token_of found → found ≡ sought
one_mark found sought e = let here : Some found ≡ Some sought = sym (mark_found found) ∙ ap mark_in (sym e) ∙ mark_found sought in cc

first_is : (a b : Token) (xs ys : List Token) → a ∷ xs ≡ b ∷ ys → a ≡ b
first_is a b xs ys e = cc

-- another mark than the one that stands first
pub other_mark : (text whole left : List ℕ) (found sought : Mark) → HaveSameTokens text whole → Begins text (token_of found) left → found ≢ sought
    → BeginsNot whole (token_of sought)
other_mark text whole left found sought same_tokens h apart more k =
    let back = h.back (token_of sought ∷ more) (same_tokens.back (token_of sought ∷ more) k) in
    apart (one_mark found sought (first_is (token_of sought) (token_of found) more back.0 back.1))

-- no mark where a word stands, or nothing
pub word_not_mark : (text whole : List ℕ) (sought : Mark) → HaveSameTokens text whole → BeginsWithNoMark text → BeginsNot whole (token_of sought)
word_not_mark text whole sought same_tokens h more k =
    false≢true (sym (mark_no_word sought) ∙ h (token_of sought) more (same_tokens.back (token_of sought ∷ more) k))

-- a text by its first byte, or two
pub at_byte : (text rest : List ℕ) (b n : ℕ) (first : Token) → text ≡ b ∷ rest → b ≡ n → Begins (n ∷ rest) first rest → Begins text first rest
at_byte text rest b n first e f h = subst (λ (t : List ℕ). Begins t first rest) (sym (e ∙ ap (λ (c : ℕ). c ∷ rest) f)) h

pub at_bytes : (text rest left : List ℕ) (b n m : ℕ) (first : Token) → text ≡ b ∷ rest → b ≡ n → rest ≡ m ∷ left → Begins (n ∷ m ∷ left) first left
    → Begins text first left
at_bytes text rest left b n m first e f g h =
    subst (λ (t : List ℕ). Begins t first left) (sym (e ∙ ap (λ (c : ℕ). c ∷ rest) f ∙ ap (λ (r : List ℕ). n ∷ r) g)) h

pub no_token_at : (text rest : List ℕ) (b n : ℕ) → text ≡ b ∷ rest → b ≡ n → ((tokens : List Token) → HasTokens (n ∷ rest) tokens → ⊥) → BeginsWithNoMark text
no_token_at text rest b n e f h first more k =
    absurd (h (first ∷ more) (subst (λ (t : List ℕ). HasTokens t (first ∷ more)) (e ∙ ap (λ (c : ℕ). c ∷ rest) f) k))

-- no mark was found
pub none_found : (r : Option (Mark × Bor (List ℕ))) (text : List ℕ) → r ≡ None → BeginsWithNoMark text
    → MatchOption r (BeginsWithNoMark text) (λ p. Begins text (token_of p.0) p.1.now)
none_found r text e h = subst (λ (o : Option (Mark × Bor (List ℕ))). MatchOption o (BeginsWithNoMark text) (λ p. Begins text (token_of p.0) p.1.now)) (sym e) h

-- another byte
neither_holds : (x y : Bool) → x ≡ false → y ≡ false → (x || y) ≡ false
neither_holds true y e f = absurd (false≢true (sym e))
neither_holds false y e f = f

pub plain_byte : (b : ℕ) → (b ≡ 40 → ⊥) → (b ≡ 41 → ⊥) → (b ≡ 33 → ⊥) → (b ≡ 38 → ⊥) → (b ≡ 124 → ⊥) → (b ≡ 61 → ⊥) → (b ≡ 123 → ⊥) → (b ≡ 125 → ⊥) → (b ≡ 44 → ⊥) → (b ≡ 96 → ⊥) →
    is_mark b ≡ false
plain_byte b n40 n41 n33 n38 n124 n61 n123 n125 n44 n96 =
    neither_holds (b == 40 || b == 41 || b == 33 || b == 38 || b == 124 || b == 61 || b == 123 || b == 125 || b == 44) (b == 96)
    (neither_holds (b == 40 || b == 41 || b == 33 || b == 38 || b == 124 || b == 61 || b == 123 || b == 125) (b == 44)
    (neither_holds (b == 40 || b == 41 || b == 33 || b == 38 || b == 124 || b == 61 || b == 123) (b == 125)
    (neither_holds (b == 40 || b == 41 || b == 33 || b == 38 || b == 124 || b == 61) (b == 123)
    (neither_holds (b == 40 || b == 41 || b == 33 || b == 38 || b == 124) (b == 61)
    (neither_holds (b == 40 || b == 41 || b == 33 || b == 38) (b == 124)
    (neither_holds (b == 40 || b == 41 || b == 33) (b == 38)
    (neither_holds (b == 40 || b == 41) (b == 33)
    (neither_holds (b == 40) (b == 41) (ne_eqb b 40 n40) (ne_eqb b 41 n41)) (ne_eqb b 33 n33)) (ne_eqb b 38 n38)) (ne_eqb b 124 n124)) (ne_eqb b 61 n61)) (ne_eqb b 123 n123))
    (ne_eqb b 125 n125)) (ne_eqb b 44 n44)) (ne_eqb b 96 n96)

pub no_mark_at : (text rest : List ℕ) (b : ℕ) → text ≡ b ∷ rest → begins_with is_white text ≡ false → is_mark b ≡ false → BeginsWithNoMark text
no_mark_at text rest b e ink plain =
    subst (λ (t : List ℕ). BeginsWithNoMark t) (sym e) (no_mark_first b rest (ap (begins_with is_white) (sym e) ∙ ink) plain)

-- the text is at its end, or isn't
pub at_end_told : (rest whole : List ℕ) (r : Bool) → HaveSameTokens rest whole → begins_with is_white rest ≡ false → r ≡ (length rest == 0)
    → MatchBool r (HasTokens whole []) (¬ HasTokens whole [])
at_end_told [] whole r h ink e = subst (λ (b : Bool). MatchBool b (HasTokens whole []) (¬ HasTokens whole [])) (sym e) (h.on [] none)
at_end_told (b ∷ rest) whole r h ink e =
    subst (λ (t : Bool). MatchBool t (HasTokens whole []) (¬ HasTokens whole [])) (sym (e ∙ some_bytes b rest)) (λ k. no_end b rest ink (h.back [] k))
  where
    some_bytes : (b : ℕ) (rest : List ℕ) → (length (b ∷ rest) == 0) ≡ false
    some_bytes b rest = ne_eqb (length (b ∷ rest)) 0 (λ e. cc)

    no_end : (b : ℕ) (rest : List ℕ) → is_white b ≡ false → HasTokens (b ∷ rest) [] → ⊥
    no_end b rest ink (white c r ts w k) = false≢true (sym ink ∙ w)

-- the mark isn't there
pub none_behind : (r : Option (Bor (List ℕ))) (text : List ℕ) (first : Token) → r ≡ None → BeginsNot text first
    → MatchOption r (BeginsNot text first) (λ p. Begins text first p.now)
none_behind None text first e h = h
none_behind (Some p) text first e h = absurd (not_none p e)
  where
    not_none : (p : Bor (List ℕ)) → Some p ≡ None → ⊥
    not_none p e = cc
