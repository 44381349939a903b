-- Runs of bytes: words, and quoted texts.
use Rattle.std.proofs.Common.{◌≡◌, ℕ, suc, ◌+◌, ◌<◌, ◌≤◌, Bool, true, false, not, ◌&&◌, ◌==◌, List, [], ◌∷◌, Option, Some, None, length, drop, get_or, refl, sym, ap, ◌∙◌, arith}
use Rattle.std.proofs.lemmas.List.{drop_more, drop_all}
use Rattle.std.specs.Option.{option_map}
use Rattle.text_streams.proofs.CloseLaws.{counted_on}
use Rattle.lib_cells.specs.LibraryWords.{is_word_byte, opens_comment, quoted_size, word_size}

word_none : (x : ℕ) (rest : List ℕ) → (is_word_byte x && not (opens_comment (x ∷ rest))) ≡ false → word_size (x ∷ rest) ≡ 0
unfolding word_size
word_none x rest e = ap (λ (b : Bool). elim b [ true ↦ suc (word_size rest) | false ↦ 0 ]) e

word_more : (x : ℕ) (rest : List ℕ) → (is_word_byte x && not (opens_comment (x ∷ rest))) ≡ true → word_size (x ∷ rest) ≡ suc (word_size rest)
unfolding word_size
word_more x rest e = ap (λ (b : Bool). elim b [ true ↦ suc (word_size rest) | false ↦ 0 ]) e

no_word : word_size [] ≡ 0
unfolding word_size
no_word = refl

-- a test that looked at what stands there
pub looked_there : (x : ℕ) (text rest : List ℕ) (found answer : Bool) → text ≡ rest → found ≡ (is_word_byte x && not (opens_comment text)) → found ≡ answer
    → (is_word_byte x && not (opens_comment rest)) ≡ answer
looked_there x text rest found answer same is e = ap (λ l. is_word_byte x && not (opens_comment l)) (sym same) ∙ sym is ∙ e

pub word_here : (text : List ℕ) (at x : ℕ) → at < length text → x ≡ get_or text at 0 → (is_word_byte x && not (opens_comment (drop at text))) ≡ false
    → at + word_size (drop at text) ≡ word_size text → at ≡ word_size text
word_here text at x lt is ends so_far =
    let split : drop at text ≡ x ∷ drop (at + 1) text = drop_more text at 0 lt ∙ ap (λ (b : ℕ). b ∷ drop (at + 1) text) (sym is) in
    let none : word_size (drop at text) ≡ 0 = ap word_size split ∙ word_none x (drop (at + 1) text) (ap (λ l. is_word_byte x && not (opens_comment l)) (sym split) ∙ ends) in
    omega (arith, none, so_far)

pub word_on : (text : List ℕ) (at x : ℕ) → at < length text → x ≡ get_or text at 0 → (is_word_byte x && not (opens_comment (drop at text))) ≡ true
    → at + word_size (drop at text) ≡ word_size text → at + 1 + word_size (drop (at + 1) text) ≡ word_size text
word_on text at x lt is goes so_far =
    let split : drop at text ≡ x ∷ drop (at + 1) text = drop_more text at 0 lt ∙ ap (λ (b : ℕ). b ∷ drop (at + 1) text) (sym is) in
    let one : word_size (drop at text) ≡ suc (word_size (drop (at + 1) text)) =
    ap word_size split ∙ word_more x (drop (at + 1) text) (ap (λ l. is_word_byte x && not (opens_comment l)) (sym split) ∙ goes) in
    omega (arith, one, so_far)

pub word_ends : (text : List ℕ) (at : ℕ) → length text ≤ at → at ≤ length text → at + word_size (drop at text) ≡ word_size text → length text ≡ word_size text
word_ends text at past within so_far =
    let none : word_size (drop at text) ≡ 0 = ap word_size (drop_all at text past) ∙ no_word in
    omega (arith, none, so_far, past, within)

quote_closes : (at x : ℕ) (t : Bool) (rest : List ℕ) → (not t && x == 34) ≡ true → counted_on at (quoted_size t (x ∷ rest)) ≡ Some (at + 1)
unfolding counted_on quoted_size
quote_closes at x true rest e = cc
quote_closes at x false rest e = rw e refl

counted : (at : ℕ) (o : Option ℕ) → counted_on at (option_map suc o) ≡ counted_on (at + 1) o
unfolding counted_on
counted at None = refl
counted at (Some n) = ap Some (omega arith)

quote_goes_on : (at x : ℕ) (t : Bool) (rest : List ℕ) → (not t && x == 34) ≡ false
    → counted_on at (quoted_size t (x ∷ rest)) ≡ counted_on (at + 1) (quoted_size (not t && x == 92) rest)
unfolding quoted_size
quote_goes_on at x true rest e = counted at (quoted_size false rest)
quote_goes_on at x false rest e = rw e (counted at (quoted_size (x == 92) rest))

none_quoted : (at : ℕ) (t : Bool) → counted_on at (quoted_size t []) ≡ None
unfolding counted_on quoted_size
none_quoted at true = refl
none_quoted at false = refl

pub closed_here : (text : List ℕ) (at x : ℕ) (taken : Bool) → at < length text → x ≡ get_or text at 0 → (not taken && x == 34) ≡ true
    → counted_on at (quoted_size taken (drop at text)) ≡ quoted_size false text → Some (at + 1) ≡ quoted_size false text
closed_here text at x taken lt is closes so_far =
    sym (ap (λ l. counted_on at (quoted_size taken l)) (drop_more text at 0 lt) ∙ rw (sym is) (quote_closes at x taken (drop (at + 1) text) closes)) ∙ so_far

pub closed_on : (text : List ℕ) (at x : ℕ) (taken : Bool) → at < length text → x ≡ get_or text at 0 → (not taken && x == 34) ≡ false
    → counted_on at (quoted_size taken (drop at text)) ≡ quoted_size false text
    → counted_on (at + 1) (quoted_size (not taken && x == 92) (drop (at + 1) text)) ≡ quoted_size false text
closed_on text at x taken lt is on so_far =
    sym (ap (λ l. counted_on at (quoted_size taken l)) (drop_more text at 0 lt) ∙ rw (sym is) (quote_goes_on at x taken (drop (at + 1) text) on)) ∙ so_far

pub never_closed : (text : List ℕ) (at : ℕ) (taken : Bool) → length text ≤ at → counted_on at (quoted_size taken (drop at text)) ≡ quoted_size false text
    → None ≡ quoted_size false text
never_closed text at taken past so_far = sym (ap (λ l. counted_on at (quoted_size taken l)) (drop_all at text past) ∙ none_quoted at taken) ∙ so_far

counted_none : (o : Option ℕ) → counted_on 0 o ≡ o
unfolding counted_on
counted_none None = refl
counted_none (Some n) = ap Some (omega arith)

pub from_start : (text : List ℕ) → counted_on 0 (quoted_size false text) ≡ quoted_size false text
from_start text = counted_none (quoted_size false text)
