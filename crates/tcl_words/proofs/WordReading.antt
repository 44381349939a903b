-- How words are read: each text is read as words in one way.
use Rattle.std.proofs.Common.{◌≡◌, ℕ, zero, suc, Bool, true, false, not, ◌||◌, cond, List, [], ◌∷◌, Some, None, Ok, Err, IfOk, refl, sym, ◌∙◌, ap, subst, length, ◌<◌, ◌≤◌, arith}
use Rattle.std.proofs.lemmas.Bool.{false≢true, true≢false}
use Rattle.std.specs.List.{list_any}
use Rattle.pw_defs.specs.declared.faults.TclFault.TheVariants.{T1, T2}
use Rattle.tcl_words.specs.Pieces.{Piece, byte, is_byte, is_space, begins}
use Rattle.tcl_words.specs.TclFaults.{nameless}
use Rattle.tcl_words.specs.Words.{Read, Manner, Variables, is_end, is_stop, stops, IsReplaced, closed, IsWord, braced, unbraced, quoted, unquoted, faulty, bare, with_word, AreWords, over, gap, word}
use Rattle.tcl_words.specs.Words.AreWords.{faulty as faulty_word}
use Rattle.tcl_words.proofs.Braces.{Found, braced_text, braced_found, found_braced, braced_shorter, IsRight}
use Rattle.tcl_words.proofs.VariableNames.{is_byte-true, and_first, and_second}
use Rattle.tcl_words.proofs.Replacing.{replaced, only_replaced, reads_so, replaced_shorter, replaced_on, stops_at_quote}

-- what is left behind the first piece
abbrev behind : List Piece → List Piece
behind [] = []
behind (p ∷ rest) = rest

-- a word in braces
abbrev pub read_braced : List Piece → Manner → List Piece → Found → Read (List ℕ)
read_braced whole manner rest None = Err (T1 (nameless whole (byte 123 ∷ rest)))
read_braced whole manner rest (Some found) = closed whole manner found.0 found.1

abbrev pub close_quote : List Piece → Manner → Read (List ℕ) → Read (List ℕ)
close_quote whole manner (Ok read) = closed whole manner read.0 (behind read.1)
close_quote whole manner (Err fault) = Err fault

-- a word in quotes
abbrev pub read_quoted : List Piece → Manner → Variables → List Piece → Bool → Read (List ℕ)
read_quoted whole manner vars rest true = close_quote whole manner (replaced whole manner vars (is_byte 34) (suc (length rest)) rest)
read_quoted whole manner vars rest false = Err (T1 (nameless whole (byte 34 ∷ rest)))

-- a word in quotes or bare
abbrev pub read_open : List Piece → Manner → Variables → Piece → List Piece → Bool → Read (List ℕ)
read_open whole manner vars p rest true = read_quoted whole manner vars rest (list_any (is_byte 34) rest)
read_open whole manner vars p rest false = replaced whole manner vars (is_stop manner) (suc (suc (length rest))) (p ∷ rest)

abbrev pub read_any : List Piece → Manner → Variables → Piece → List Piece → Bool → Read (List ℕ)
read_any whole manner vars p rest true = read_braced whole manner rest (braced_text 0 rest)
read_any whole manner vars p rest false = read_open whole manner vars p rest (is_byte 34 p)

-- the word that begins with the piece
abbrev pub read_word : List Piece → Manner → Variables → Piece → List Piece → Read (List ℕ)
read_word whole manner vars p rest = read_any whole manner vars p rest (is_byte 123 p)

-- the words, with fuel for as many pieces as are read
abbrev pub and_words : (List Piece → Read (List (List ℕ))) → Read (List ℕ) → Read (List (List ℕ))
and_words later (Ok read) = with_word read.0 (later read.1)
and_words later (Err fault) = Err fault

abbrev pub read_words : List Piece → Manner → Variables → ℕ → List Piece → Read (List (List ℕ))
read_words whole manner vars zero text = Ok ([], text)
read_words whole manner vars (suc n) [] = Ok ([], [])
read_words whole manner vars (suc n) (p ∷ rest) =
    elim (is_end manner p) [
      | true ↦ Ok ([], p ∷ rest)
      | false ↦ elim (is_space p) [ true ↦ read_words whole manner vars n rest | false ↦ and_words (read_words whole manner vars n) (read_word whole manner vars p rest) ]
    ]

is_not : (t : Bool) → not t ≡ true → t ≡ false
is_not true h = absurd (false≢true h)
is_not false h = refl

pub neither_first : (t u : Bool) → (t || u) ≡ false → t ≡ false
neither_first true u h = h
neither_first false u h = refl

pub neither_second : (t u : Bool) → (t || u) ≡ false → u ≡ false
neither_second true u h = absurd (true≢false h)
neither_second false u h = h

module _ (whole : List Piece) (manner : Manner) (vars : Variables) where
  -- what a text begins with: a piece and a rest
  abbrev Reads : List Piece → Read (List ℕ) → Type 0
  Reads [] read = Unit {0}
  Reads (p ∷ rest) read = read_word whole manner vars p rest ≡ read

  -- each reading of a word is the one that is computed
  only_word : (text : List Piece) (read : Read (List ℕ)) → IsWord whole manner vars text read → Reads text read
  only_word text read (braced rest left w h) = ap (read_braced whole manner rest) (braced_found 0 rest w left h)
  only_word text read (unbraced rest none) = by (braced_text 0 rest) (found_braced 0 rest)
    where
      by : (o : Found) → IsRight 0 rest o → read_braced whole manner rest o ≡ Err (T1 (nameless whole (byte 123 ∷ rest)))
      by None h = refl
      by (Some found) h = absurd (none found.0 found.1 h)
  only_word text read (quoted rest left w some h) =
      rw (some, read_quoted) (ap (close_quote whole manner) (only_replaced whole manner vars (is_byte 34) rest (Ok (w, byte 34 ∷ left)) h (suc (length rest)) (omega arith)))
  only_word text read (unquoted rest none) = rw (none, read_quoted) refl
  only_word text read (faulty rest fault some h) =
      rw (some, read_quoted) (ap (close_quote whole manner) (only_replaced whole manner vars (is_byte 34) rest (Err fault) h (suc (length rest)) (omega arith)))
  only_word text read (bare p rest more no_brace no_quote h) =
      rw (no_brace, read_any, no_quote, read_open) (only_replaced whole manner vars (is_stop manner) (p ∷ rest) more h (suc (suc (length rest))) (omega arith))

  -- and the one that is computed is a reading
  word_so : (p : Piece) (rest : List Piece) → IsWord whole manner vars (p ∷ rest) (read_word whole manner vars p rest)
  word_so p rest = by (is_byte 123 p) refl
    where
      in_braces : (o : Found) → braced_text 0 rest ≡ o → IsRight 0 rest o → IsWord whole manner vars (byte 123 ∷ rest) (read_braced whole manner rest o)
      in_braces None e h = unbraced rest (λ w left i. (let found : braced_text 0 rest ≡ Some (w, left) = braced_found 0 rest w left i in cc))
      in_braces (Some found) e h = braced rest found.1 found.0 h

      closes : list_any (is_byte 34) rest ≡ true → (read : Read (List ℕ)) → IsReplaced whole manner vars (is_byte 34) rest read
          → IfOk read (λ r. begins (is_byte 34) r.1 ≡ true) → IsWord whole manner vars (byte 34 ∷ rest) (close_quote whole manner read)
      closes some (Err fault) h at = faulty rest fault some h
      closes some (Ok (w, [])) h at = absurd (false≢true at)
      closes some (Ok (w, q ∷ left)) h at =
          quoted rest left w some (subst (λ c. IsReplaced whole manner vars (is_byte 34) rest (Ok (w, c ∷ left))) (is_byte-true 34 q at) h)

      in_quotes : (t : Bool) → list_any (is_byte 34) rest ≡ t → IsWord whole manner vars (byte 34 ∷ rest) (read_quoted whole manner vars rest t)
      in_quotes true e =
          let h = reads_so whole manner vars (is_byte 34) (suc (length rest)) rest (omega arith) in
          closes e (replaced whole manner vars (is_byte 34) (suc (length rest)) rest) h (stops_at_quote whole manner vars rest _ h e)
      in_quotes false e = unquoted rest e

      otherwise : is_byte 123 p ≡ false → (t : Bool) → is_byte 34 p ≡ t → IsWord whole manner vars (p ∷ rest) (read_open whole manner vars p rest t)
      otherwise e true f =
          subst (λ c. IsWord whole manner vars (c ∷ rest) (read_quoted whole manner vars rest (list_any (is_byte 34) rest))) (sym (is_byte-true 34 p f)) (in_quotes (list_any (is_byte 34) rest) refl)
      otherwise e false f = bare p rest _ e f (reads_so whole manner vars (is_stop manner) (suc (suc (length rest))) (p ∷ rest) (omega arith))

      by : (t : Bool) → is_byte 123 p ≡ t → IsWord whole manner vars (p ∷ rest) (read_any whole manner vars p rest t)
      by true e =
          subst (λ c. IsWord whole manner vars (c ∷ rest) (read_braced whole manner rest (braced_text 0 rest))) (sym (is_byte-true 123 p e)) (in_braces (braced_text 0 rest) refl (found_braced 0 rest))
      by false e = otherwise e (is_byte 34 p) refl

  closed_shorter : (w : List ℕ) (left : List Piece) (n : ℕ) → length left < n → IfOk (closed whole manner w left) (λ r. length r.1 < n)
  closed_shorter w left n less = by (stops manner left)
    where
      by : (t : Bool) → IfOk (cond t (Ok (w, left)) (Err (T2 (nameless whole left)))) (λ (r : List ℕ × List Piece). length r.1 < n)
      by true = less
      by false = tt

  -- what is left behind a word is shorter
  pub word_shorter : (text : List Piece) (read : Read (List ℕ)) → stops manner text ≡ false → IsWord whole manner vars text read
      → IfOk read (λ r. length r.1 < length text)
  word_shorter text read go (braced rest left w h) =
      closed_shorter w left (suc (length rest)) (let less : length left < length rest = braced_shorter 0 rest w left h in omega arith)
  word_shorter text read go (unbraced rest none) = tt
  word_shorter text read go (quoted rest left w some h) =
      closed_shorter w left (suc (length rest)) (let less : length (byte 34 ∷ left) ≤ length rest = replaced_shorter whole manner vars (is_byte 34) rest (Ok (w, byte 34 ∷ left)) h in omega arith)
  word_shorter text read go (unquoted rest none) = tt
  word_shorter text read go (faulty rest fault some h) = tt
  word_shorter text read go (bare p rest more no_brace no_quote h) = by more (replaced_on whole manner vars (is_stop manner) p rest more go h)
    where
      by : (read : Read (List ℕ)) → IfOk read (λ r. length r.1 ≤ length rest) → IfOk read (λ r. length r.1 < suc (length rest))
      by (Ok r) h = omega arith
      by (Err f) h = tt

  -- each reading of the words is the one that is computed
  pub only_words : (text : List Piece) (read : Read (List (List ℕ))) → AreWords whole manner vars text read → (n : ℕ) → length text < n
      → read_words whole manner vars n text ≡ read
  only_words text read h zero enough = absurd (omega arith)
  only_words text read (over [] e) (suc n) enough = refl
  only_words text read (over (p ∷ rest) e) (suc n) enough = rw (e, read_words) refl
  only_words text read (gap p rest more e h) (suc n) enough =
      let space : is_space p ≡ true = and_first (is_space p) (not (is_end manner p)) e in
      let ended : is_end manner p ≡ false = is_not (is_end manner p) (and_second (is_space p) (not (is_end manner p)) e) in
      rw (ended, read_words, space) (only_words rest more h n (omega arith))
  only_words text read (word [] left w more go h later) (suc n) enough = absurd (true≢false go)
  only_words text read (word (p ∷ rest) left w more go h later) (suc n) enough =
      let space : is_space p ≡ false = neither_first (is_space p) (is_end manner p) go in
      let ended : is_end manner p ≡ false = neither_second (is_space p) (is_end manner p) go in
      let here : read_word whole manner vars p rest ≡ Ok (w, left) = only_word (p ∷ rest) (Ok (w, left)) h in
      let less : length left < length (p ∷ rest) = word_shorter (p ∷ rest) (Ok (w, left)) go h in
      rw (ended, read_words, space) (ap (and_words (read_words whole manner vars n)) here ∙ ap (with_word w) (only_words left more later n (omega arith)))
  only_words text read (faulty_word [] fault go h) (suc n) enough = absurd (true≢false go)
  only_words text read (faulty_word (p ∷ rest) fault go h) (suc n) enough =
      let space : is_space p ≡ false = neither_first (is_space p) (is_end manner p) go in
      let ended : is_end manner p ≡ false = neither_second (is_space p) (is_end manner p) go in
      rw (ended, read_words, space) (ap (and_words (read_words whole manner vars n)) (only_word (p ∷ rest) (Err fault) h))

  -- and the one that is computed is a reading
  pub words_so : (n : ℕ) (text : List Piece) → length text < n → AreWords whole manner vars text (read_words whole manner vars n text)
  words_so zero text enough = absurd (omega arith)
  words_so (suc n) [] enough = over [] refl
  words_so (suc n) (p ∷ rest) enough = by (is_end manner p) refl (is_space p) refl (λ left less. words_so n left (omega arith))
    where
      Later : Type 0
      Later = (left : List Piece) → length left ≤ length rest → AreWords whole manner vars left (read_words whole manner vars n left)

      goes : stops manner (p ∷ rest) ≡ false → Later → (read : Read (List ℕ)) → IsWord whole manner vars (p ∷ rest) read
          → IfOk read (λ r. length r.1 < suc (length rest)) → AreWords whole manner vars (p ∷ rest) (and_words (read_words whole manner vars n) read)
      goes go later (Ok r) h less = word (p ∷ rest) r.1 r.0 (read_words whole manner vars n r.1) go h (later r.1 (omega arith))
      goes go later (Err fault) h less = faulty_word (p ∷ rest) fault go h

      by : (t : Bool) → is_end manner p ≡ t → (u : Bool) → is_space p ≡ u → Later
          → AreWords whole manner vars (p ∷ rest)
          (elim t [
            | true ↦ Ok ([], p ∷ rest)
            | false ↦ elim u [ true ↦ read_words whole manner vars n rest | false ↦ and_words (read_words whole manner vars n) (read_word whole manner vars p rest) ]
          ])
      by true e u f later = over (p ∷ rest) e
      by false e true f later = gap p rest _ (rw (e, f) refl) (later rest (omega arith))
      by false e false f later =
          let go : (is_space p || is_end manner p) ≡ false = rw (e, f) refl in
          goes go later (read_word whole manner vars p rest) (word_so p rest) (word_shorter (p ∷ rest) (read_word whole manner vars p rest) go (word_so p rest))

  words_with : (w : List ℕ) (read : Read (List (List ℕ))) (n m : ℕ) → n ≤ m → IfOk read (λ r. length r.1 ≤ n) → IfOk (with_word w read) (λ r. length r.1 ≤ m)
  words_with w (Ok r) n m less h = omega arith
  words_with w (Err f) n m less h = tt

  -- what is left behind the words is no longer
  words_shorter : (text : List Piece) (read : Read (List (List ℕ))) → AreWords whole manner vars text read → IfOk read (λ r. length r.1 ≤ length text)
  words_shorter text read (over left e) = omega arith
  words_shorter text read (gap p rest more e h) = by more (words_shorter rest more h)
    where
      by : (read : Read (List (List ℕ))) → IfOk read (λ r. length r.1 ≤ length rest) → IfOk read (λ r. length r.1 ≤ suc (length rest))
      by (Ok r) h = omega arith
      by (Err f) h = tt
  words_shorter text read (word front left w more go h later) =
      words_with w more (length left) (length front) (let less : length left < length front = word_shorter front (Ok (w, left)) go h in omega arith) (words_shorter left more later)
  words_shorter text read (faulty_word front fault go h) = tt

  -- and shorter where a word stands first
  pub words_on : (text : List Piece) (read : Read (List (List ℕ))) → stops manner text ≡ false → AreWords whole manner vars text read
      → IfOk read (λ r. length r.1 < length text)
  words_on text read go (over [] e) = absurd (true≢false go)
  words_on text read go (over (p ∷ rest) e) = absurd (true≢false (sym e ∙ neither_second (is_space p) (is_end manner p) go))
  words_on text read go (gap p rest more e h) =
      absurd (true≢false (sym (and_first (is_space p) (not (is_end manner p)) e) ∙ neither_first (is_space p) (is_end manner p) go))
  words_on text read go (word front left w more e h later) = by more (word_shorter front (Ok (w, left)) e h) (words_shorter left more later)
    where
      by : (read : Read (List (List ℕ))) → length left < length front → IfOk read (λ r. length r.1 ≤ length left)
          → IfOk (with_word w read) (λ r. length r.1 < length front)
      by (Ok r) less h = omega arith
      by (Err f) less h = tt
  words_on text read go (faulty_word front fault e h) = tt
