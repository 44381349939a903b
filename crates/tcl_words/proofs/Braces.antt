-- Where a brace closes, and what a word in braces holds.
use Rattle.std.proofs.Common.{◌≡◌, ◌≢◌, ℕ, zero, suc, Bool, true, false, List, [], ◌∷◌, ◌++◌, ◌==◌, Option, Some, None, refl, sym, ◌∙◌, ap, eqb-true, ne_eqb, subst, length, ◌<◌, arith}
use Rattle.std.proofs.lemmas.Bool.{eqb-false}
use Rattle.std.proofs.lemmas.List.{append_assoc}
use Rattle.std.proofs.lemmas.Option.{none-some, same_Some}
use Rattle.tcl_words.specs.Pieces.{Piece, byte, escaped, carried}
use Rattle.tcl_words.specs.Places.{depth_behind, kept_text, one_fewer}
use Rattle.tcl_words.specs.Words.{IsBraced, closes, inner_closes, inner_opens, plain, kept, joined}

-- a text and what is left behind it
abbrev pub Found : Type 0
Found = Option (List ℕ × List Piece)

abbrev pub after : List ℕ → Found → Found
after front None = None
after front (Some found) = Some (front ++ found.0, found.1)

-- the text up to the brace that closes, where one does
abbrev pub braced_text : ℕ → List Piece → Found
braced_text depth [] = None
braced_text depth (byte b ∷ rest) =
    elim (b == 123) [
      | true ↦ after (123 ∷ []) (braced_text (suc depth) rest)
      | false ↦ elim (b == 125)
          [ true ↦ elim depth [ zero ↦ Some ([], rest) | suc d ↦ after (125 ∷ []) (braced_text d rest) ] | false ↦ after (b ∷ []) (braced_text depth rest) ]
    ]
braced_text depth (escaped b ∷ rest) = after (92 ∷ b ∷ []) (braced_text depth rest)
braced_text depth (carried ∷ rest) = after (32 ∷ []) (braced_text depth rest)

-- what is braced is found
pub braced_found : (depth : ℕ) (text : List Piece) (word : List ℕ) (left : List Piece) → IsBraced depth text word left
    → braced_text depth text ≡ Some (word, left)
braced_found depth text word left (closes rest) = refl
braced_found depth text word left (inner_closes d rest behind inner h) = ap (after (125 ∷ [])) (braced_found d rest inner behind h)
braced_found depth text word left (inner_opens d rest behind inner h) = ap (after (123 ∷ [])) (braced_found (suc d) rest inner behind h)
braced_found depth text word left (plain d b rest behind inner unopened unclosed h) =
    rw (ne_eqb b 123 unopened, ne_eqb b 125 unclosed, braced_text) (ap (after (b ∷ [])) (braced_found d rest inner behind h))
braced_found depth text word left (kept d b rest behind inner h) = ap (after (92 ∷ b ∷ [])) (braced_found d rest inner behind h)
braced_found depth text word left (joined d rest behind inner h) = ap (after (32 ∷ [])) (braced_found d rest inner behind h)

-- what is found is braced
abbrev pub IsRight : ℕ → List Piece → Found → Type 0
IsRight depth text None = Unit {0}
IsRight depth text (Some found) = IsBraced depth text found.0 found.1

pub found_braced : (depth : ℕ) (text : List Piece) → IsRight depth text (braced_text depth text)
found_braced depth [] = tt
found_braced depth (byte b ∷ rest) = by (b == 123) refl (b == 125) refl (λ d. found_braced d rest)
  where
    opened : (o : Found) → IsRight (suc depth) rest o → IsRight depth (byte 123 ∷ rest) (after (123 ∷ []) o)
    opened None h = tt
    opened (Some found) h = inner_opens depth rest found.1 found.0 h

    inner : (d : ℕ) (o : Found) → IsRight d rest o → IsRight (suc d) (byte 125 ∷ rest) (after (125 ∷ []) o)
    inner d None h = tt
    inner d (Some found) h = inner_closes d rest found.1 found.0 h

    shut : (d : ℕ) → ((n : ℕ) → IsRight n rest (braced_text n rest))
        → IsRight d (byte 125 ∷ rest) (elim d [ zero ↦ Some ([], rest) | suc n ↦ after (125 ∷ []) (braced_text n rest) ])
    shut zero later = closes rest
    shut (suc n) later = inner n (braced_text n rest) (later n)

    stays : b ≢ 123 → b ≢ 125 → (o : Found) → IsRight depth rest o → IsRight depth (byte b ∷ rest) (after (b ∷ []) o)
    stays unopened unclosed None h = tt
    stays unopened unclosed (Some found) h = plain depth b rest found.1 found.0 unopened unclosed h

    by : (t : Bool) → (b == 123) ≡ t → (u : Bool) → (b == 125) ≡ u → ((n : ℕ) → IsRight n rest (braced_text n rest))
        → IsRight depth (byte b ∷ rest)
        (elim t [
          | true ↦ after (123 ∷ []) (braced_text (suc depth) rest)
          | false ↦ elim u
              [ true ↦ elim depth [ zero ↦ Some ([], rest) | suc d ↦ after (125 ∷ []) (braced_text d rest) ] | false ↦ after (b ∷ []) (braced_text depth rest) ]
        ])
    by true e u f later =
        subst (λ c. IsRight depth (byte c ∷ rest) (after (123 ∷ []) (braced_text (suc depth) rest))) (sym (eqb-true b 123 e)) (opened (braced_text (suc depth) rest) (later (suc depth)))
    by false e true f later =
        subst (λ c. IsRight depth (byte c ∷ rest) (elim depth [ zero ↦ Some ([], rest) | suc d ↦ after (125 ∷ []) (braced_text d rest) ])) (sym (eqb-true b 125 f)) (shut depth later)
    by false e false f later = stays (eqb-false b 123 e) (eqb-false b 125 f) (braced_text depth rest) (later depth)
found_braced depth (escaped b ∷ rest) = by (braced_text depth rest) (found_braced depth rest)
  where
    by : (o : Found) → IsRight depth rest o → IsRight depth (escaped b ∷ rest) (after (92 ∷ b ∷ []) o)
    by None h = tt
    by (Some found) h = kept depth b rest found.1 found.0 h
found_braced depth (carried ∷ rest) = by (braced_text depth rest) (found_braced depth rest)
  where
    by : (o : Found) → IsRight depth rest o → IsRight depth (carried ∷ rest) (after (32 ∷ []) o)
    by None h = tt
    by (Some found) h = joined depth rest found.1 found.0 h

-- what is left behind the brace is shorter
pub braced_shorter : (depth : ℕ) (text : List Piece) (word : List ℕ) (left : List Piece) → IsBraced depth text word left → length left < length text
braced_shorter depth text word left (closes rest) = omega arith
braced_shorter depth text word left (inner_closes d rest behind inner h) =
    let less : length behind < length rest = braced_shorter d rest inner behind h in omega arith
braced_shorter depth text word left (inner_opens d rest behind inner h) =
    let less : length behind < length rest = braced_shorter (suc d) rest inner behind h in omega arith
braced_shorter depth text word left (plain d b rest behind inner u c h) =
    let less : length behind < length rest = braced_shorter d rest inner behind h in omega arith
braced_shorter depth text word left (kept d b rest behind inner h) =
    let less : length behind < length rest = braced_shorter d rest inner behind h in omega arith
braced_shorter depth text word left (joined d rest behind inner h) =
    let less : length behind < length rest = braced_shorter d rest inner behind h in omega arith

-- texts in front of each other
pub after_after : (front more : List ℕ) (o : Found) → after front (after more o) ≡ after (front ++ more) o
after_after front more None = refl
after_after front more (Some found) = ap (λ text. Some (text, found.1)) (sym (append_assoc front more found.0))

some_same : (d e : ℕ) → Some d ≡ Some e → d ≡ e
some_same d e h = same_Some d e h

-- a piece that doesn't close the word stands in it
pub kept_in : (depth d : ℕ) (p : Piece) (rest : List Piece) → depth_behind depth p ≡ Some d → braced_text depth (p ∷ rest) ≡ after (kept_text p) (braced_text d rest)
kept_in depth d (byte b) rest h = by (b == 123) refl (b == 125) refl h
  where
    inner : (n : ℕ) → one_fewer n ≡ Some d → b ≡ 125 → elim n as (λ _. Found) [ zero ↦ Some ([], rest) | suc k ↦ after (125 ∷ []) (braced_text k rest) ] ≡ after (b ∷ []) (braced_text d rest)
    inner zero e is = absurd (none-some _ e)
    inner (suc k) e is = rw (some_same k d e, is) refl

    by : (t : Bool) → (b == 123) ≡ t → (u : Bool) → (b == 125) ≡ u
        → elim t as (λ _. Option ℕ) [ true ↦ Some (suc depth) | false ↦ elim u as (λ _. Option ℕ) [ true ↦ one_fewer depth | false ↦ Some depth ] ] ≡ Some d
        → elim t as (λ _. Found) [
          | true ↦ after (123 ∷ []) (braced_text (suc depth) rest)
          | false ↦ elim u as (λ _. Found)
              [ true ↦ elim depth as (λ _. Found) [ zero ↦ Some ([], rest) | suc k ↦ after (125 ∷ []) (braced_text k rest) ] | false ↦ after (b ∷ []) (braced_text depth rest) ]
        ] ≡ after (b ∷ []) (braced_text d rest)
    by true e u f is = rw (sym (some_same (suc depth) d is), eqb-true b 123 e) refl
    by false e true f is = inner depth is (eqb-true b 125 f)
    by false e false f is = rw (some_same depth d is) refl
kept_in depth d (escaped b) rest h = ap (λ n. after (92 ∷ b ∷ []) (braced_text n rest)) (some_same depth d h)
kept_in depth d carried rest h = ap (λ n. after (32 ∷ []) (braced_text n rest)) (some_same depth d h)

-- a piece that closes the word
pub shut_at : (depth : ℕ) (p : Piece) (rest : List Piece) → depth_behind depth p ≡ None → braced_text depth (p ∷ rest) ≡ Some ([], rest)
shut_at depth (byte b) rest h = by (b == 123) refl (b == 125) refl h
  where
    outer : (n : ℕ) → one_fewer n ≡ None → elim n as (λ _. Found) [ zero ↦ Some ([], rest) | suc k ↦ after (125 ∷ []) (braced_text k rest) ] ≡ Some ([], rest)
    outer zero e = refl
    outer (suc k) e = absurd (none-some _ (sym e))

    by : (t : Bool) → (b == 123) ≡ t → (u : Bool) → (b == 125) ≡ u
        → elim t as (λ _. Option ℕ) [ true ↦ Some (suc depth) | false ↦ elim u as (λ _. Option ℕ) [ true ↦ one_fewer depth | false ↦ Some depth ] ] ≡ None
        → elim t as (λ _. Found) [
          | true ↦ after (123 ∷ []) (braced_text (suc depth) rest)
          | false ↦ elim u as (λ _. Found)
              [ true ↦ elim depth as (λ _. Found) [ zero ↦ Some ([], rest) | suc k ↦ after (125 ∷ []) (braced_text k rest) ] | false ↦ after (b ∷ []) (braced_text depth rest) ]
        ] ≡ Some ([], rest)
    by true e u f is = absurd (none-some _ (sym is))
    by false e true f is = outer depth is
    by false e false f is = absurd (none-some _ (sym is))
shut_at depth (escaped b) rest h = absurd (none-some _ (sym h))
shut_at depth carried rest h = absurd (none-some _ (sym h))

-- a text in which the word isn't closed has none
pub never_closed : (text : List Piece) → braced_text 0 text ≡ None → (word : List ℕ) (left : List Piece) → ¬ IsBraced 0 text word left
never_closed text e word left h = absurd (none-some _ (sym e ∙ braced_found 0 text word left h))

-- a text in which it is closed
pub closed_so : (text : List Piece) (word : List ℕ) (left : List Piece) → braced_text 0 text ≡ Some (word, left) → IsBraced 0 text word left
closed_so text word left e = subst (IsRight 0 text) e (found_braced 0 text)
