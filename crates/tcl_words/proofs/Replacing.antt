-- How bare and quoted text is read: each text is read in one way.
use Rattle.std.proofs.Common.{◌≡◌, ℕ, zero, suc, Bool, true, false, ◌||◌, List, [], ◌∷◌, ◌++◌, map, ◌==◌, Option, Some, None, Ok, Err, IfOk, refl, sym, ◌∙◌, ap, eqb-true, subst, length, ◌<◌, ◌≤◌, arith}
use Rattle.std.proofs.lemmas.Bool.{false≢true, true≢false}
use Rattle.std.specs.List.{list_all, list_any}
use Rattle.pw_defs.specs.declared.faults.TclFault.TheVariants.{T3, T4}
use Rattle.tcl_words.specs.Pieces.{Piece, byte, escaped, carried, is_byte, begins}
use Rattle.tcl_words.specs.TclFaults.{at, nameless}
use Rattle.tcl_words.specs.Words.{Read, Manner, command, list, Variables, value_of, is_replaced, is_name_byte, meant, with_text, IsVariable, bare, braced, IsReplaced, over, stopped, joined, taken, plain, variable, unset, dollar, bracket}
use Rattle.tcl_words.proofs.Braces.{Found}
use Rattle.tcl_words.proofs.VariableNames.{variable_of, variable_found, found_named, variable_shorter, variable_absent, absent_variable, IsNamed, and_first, and_second}

-- a variable's text, or the fault of one that isn't set
abbrev pub read_value : List Piece → (List Piece → Read (List ℕ)) → List Piece → List ℕ × List Piece → Option (List ℕ) → Read (List ℕ)
read_value whole later rest found None = Err (T4 (at whole (byte 36 ∷ rest) found.0))
read_value whole later rest found (Some value) = with_text value (later found.1)

-- a `$` that names a variable, or stands for itself
abbrev pub read_dollar : List Piece → Variables → (List Piece → Read (List ℕ)) → List Piece → Found → Read (List ℕ)
read_dollar whole vars later rest None = with_text (36 ∷ []) (later rest)
read_dollar whole vars later rest (Some found) = read_value whole later rest found (value_of found.0 vars)

-- a byte at which something is replaced: a `$`, or a bracket
abbrev pub read_special : List Piece → Variables → (List Piece → Read (List ℕ)) → ℕ → List Piece → Bool → Read (List ℕ)
read_special whole vars later b rest true = read_dollar whole vars later rest (variable_of rest)
read_special whole vars later b rest false = Err (T3 (nameless whole (byte b ∷ rest)))

abbrev pub read_byte : List Piece → Variables → (List Piece → Read (List ℕ)) → ℕ → List Piece → Bool → Read (List ℕ)
read_byte whole vars later b rest true = read_special whole vars later b rest (b == 36)
read_byte whole vars later b rest false = with_text (b ∷ []) (later rest)

-- a piece at which the text doesn't stop
abbrev pub read_piece : List Piece → Manner → Variables → (List Piece → Read (List ℕ)) → Piece → List Piece → Read (List ℕ)
read_piece whole manner vars later carried rest = with_text (32 ∷ []) (later rest)
read_piece whole manner vars later (escaped b) rest = with_text (meant b ∷ []) (later rest)
read_piece whole manner vars later (byte b) rest = read_byte whole vars later b rest (is_replaced manner b)

-- the text up to where it stops, with fuel for as many pieces as are read
abbrev pub replaced : List Piece → Manner → Variables → (Piece → Bool) → ℕ → List Piece → Read (List ℕ)
replaced whole manner vars stop zero text = Ok ([], text)
replaced whole manner vars stop (suc n) [] = Ok ([], [])
replaced whole manner vars stop (suc n) (p ∷ rest) =
    elim (stop p) [ true ↦ Ok ([], p ∷ rest) | false ↦ read_piece whole manner vars (replaced whole manner vars stop n) p rest ]

pub only_special : (manner : Manner) (b : ℕ) → is_replaced manner b ≡ true → (b == 36) ≡ false → b ≡ 91
only_special command b f e = let or : ((b == 36) || (b == 91)) ≡ true = f in eqb-true b 91 (rw e at or)
only_special list b f e = absurd (false≢true f)

module _ (whole : List Piece) (manner : Manner) (vars : Variables) (stop : Piece → Bool) where
  -- each reading is the one that is computed
  pub only_replaced : (text : List Piece) (read : Read (List ℕ)) → IsReplaced whole manner vars stop text read → (n : ℕ) → length text < n
      → replaced whole manner vars stop n text ≡ read
  only_replaced text read h zero enough = absurd (omega arith)
  only_replaced text read over (suc n) enough = refl
  only_replaced text read (stopped p rest e) (suc n) enough = rw (e, replaced) refl
  only_replaced text read (joined rest more e h) (suc n) enough = rw (e, replaced) (ap (with_text (32 ∷ [])) (only_replaced rest more h n (omega arith)))
  only_replaced text read (taken b rest more e h) (suc n) enough = rw (e, replaced) (ap (with_text (meant b ∷ [])) (only_replaced rest more h n (omega arith)))
  only_replaced text read (plain b rest more e f h) (suc n) enough =
      rw (e, replaced, f, read_piece, read_byte) (ap (with_text (b ∷ [])) (only_replaced rest more h n (omega arith)))
  only_replaced text read (variable rest left name value more e f v is h) (suc n) enough =
      let found : variable_of rest ≡ Some (name, left) = variable_found rest name left v in
      let less : length left ≤ length rest = variable_shorter rest name left v in
      rw (e, replaced, f, found, is) (ap (with_text value) (only_replaced left more h n (omega arith)))
  only_replaced text read (unset rest left name e f v is) (suc n) enough =
      let found : variable_of rest ≡ Some (name, left) = variable_found rest name left v in
      rw (e, replaced, f, found, is) refl
  only_replaced text read (dollar rest more e f none h) (suc n) enough =
      let nothing : variable_of rest ≡ None = variable_absent rest none in
      rw (e, replaced, f, nothing) (ap (with_text (36 ∷ [])) (only_replaced rest more h n (omega arith)))
  only_replaced text read (bracket rest e f) (suc n) enough = rw (e, replaced, f) refl

  -- what holds of all texts that are no longer than the rest
  Later : (List Piece → Read (List ℕ)) → List Piece → Type 0
  Later later rest = (left : List Piece) → length left ≤ length rest → IsReplaced whole manner vars stop left (later left)

  value_so : (later : List Piece → Read (List ℕ)) (rest : List Piece) → Later later rest → stop (byte 36) ≡ false → is_replaced manner 36 ≡ true
      → (found : List ℕ × List Piece) → IsVariable rest found.0 found.1 → (o : Option (List ℕ)) → value_of found.0 vars ≡ o
      → IsReplaced whole manner vars stop (byte 36 ∷ rest) (read_value whole later rest found o)
  unfolding Later
  value_so later rest h e f found v None is = unset rest found.1 found.0 e f v is
  value_so later rest h e f found v (Some value) is =
      variable rest found.1 found.0 value (later found.1) e f v is (h found.1 (variable_shorter rest found.0 found.1 v))

  dollar_so : (later : List Piece → Read (List ℕ)) (rest : List Piece) → Later later rest → stop (byte 36) ≡ false → is_replaced manner 36 ≡ true
      → (o : Found) → variable_of rest ≡ o → IsNamed rest o → IsReplaced whole manner vars stop (byte 36 ∷ rest) (read_dollar whole vars later rest o)
  unfolding Later
  dollar_so later rest h e f None is named = dollar rest (later rest) e f (absent_variable rest is) (h rest (omega arith))
  dollar_so later rest h e f (Some found) is named = value_so later rest h e f found named (value_of found.0 vars) refl

  special_so : (later : List Piece → Read (List ℕ)) (b : ℕ) (rest : List Piece) → Later later rest → stop (byte b) ≡ false → is_replaced manner b ≡ true
      → (t : Bool) → (b == 36) ≡ t → IsReplaced whole manner vars stop (byte b ∷ rest) (read_special whole vars later b rest t)
  special_so later b rest h e f true is =
      let same : b ≡ 36 = eqb-true b 36 is in
      subst (λ c. IsReplaced whole manner vars stop (byte c ∷ rest) (read_dollar whole vars later rest (variable_of rest))) (sym same)
      (dollar_so later rest h (subst (λ c. stop (byte c) ≡ false) same e) (subst (λ c. is_replaced manner c ≡ true) same f) (variable_of rest) refl (found_named rest))
  special_so later b rest h e f false is =
      let same : b ≡ 91 = only_special manner b f is in
      subst (λ c. IsReplaced whole manner vars stop (byte c ∷ rest) (Err (T3 (nameless whole (byte c ∷ rest))))) (sym same)
      (bracket rest (subst (λ c. stop (byte c) ≡ false) same e) (subst (λ c. is_replaced manner c ≡ true) same f))

  piece_so : (later : List Piece → Read (List ℕ)) (p : Piece) (rest : List Piece) → Later later rest → stop p ≡ false
      → IsReplaced whole manner vars stop (p ∷ rest) (read_piece whole manner vars later p rest)
  unfolding Later
  piece_so later (byte b) rest h e = by (is_replaced manner b) refl
    where
      by : (t : Bool) → is_replaced manner b ≡ t → IsReplaced whole manner vars stop (byte b ∷ rest) (read_byte whole vars later b rest t)
      by true f = special_so later b rest h e f (b == 36) refl
      by false f = plain b rest (later rest) e f (h rest (omega arith))
  piece_so later (escaped b) rest h e = taken b rest (later rest) e (h rest (omega arith))
  piece_so later carried rest h e = joined rest (later rest) e (h rest (omega arith))

  -- and what is computed is a reading
  pub reads_so : (n : ℕ) (text : List Piece) → length text < n → IsReplaced whole manner vars stop text (replaced whole manner vars stop n text)
  unfolding Later
  reads_so zero text enough = absurd (omega arith)
  reads_so (suc n) [] enough = over
  reads_so (suc n) (p ∷ rest) enough = by (stop p) refl (λ left less. reads_so n left (omega arith))
    where
      by : (t : Bool) → stop p ≡ t → Later (replaced whole manner vars stop n) rest
          → IsReplaced whole manner vars stop (p ∷ rest) (elim t [ true ↦ Ok ([], p ∷ rest) | false ↦ read_piece whole manner vars (replaced whole manner vars stop n) p rest ])
      by true e h = stopped p rest e
      by false e h = piece_so (replaced whole manner vars stop n) p rest h e

  shorter_with : (front : List ℕ) (read : Read (List ℕ)) (n m : ℕ) → n ≤ m → IfOk read (λ r. length r.1 ≤ n) → IfOk (with_text front read) (λ r. length r.1 ≤ m)
  shorter_with front (Ok r) n m less h = omega arith
  shorter_with front (Err f) n m less h = tt

  -- what is left is no longer than the text
  pub replaced_shorter : (text : List Piece) (read : Read (List ℕ)) → IsReplaced whole manner vars stop text read → IfOk read (λ r. length r.1 ≤ length text)
  replaced_shorter text read over = omega arith
  replaced_shorter text read (stopped p rest e) = omega arith
  replaced_shorter text read (joined rest more e h) = shorter_with (32 ∷ []) more (length rest) (suc (length rest)) (omega arith) (replaced_shorter rest more h)
  replaced_shorter text read (taken b rest more e h) =
      shorter_with (meant b ∷ []) more (length rest) (suc (length rest)) (omega arith) (replaced_shorter rest more h)
  replaced_shorter text read (plain b rest more e f h) =
      shorter_with (b ∷ []) more (length rest) (suc (length rest)) (omega arith) (replaced_shorter rest more h)
  replaced_shorter text read (variable rest left name value more e f v is h) =
      let less : length left ≤ length rest = variable_shorter rest name left v in
      shorter_with value more (length left) (suc (length rest)) (omega arith) (replaced_shorter left more h)
  replaced_shorter text read (unset rest left name e f v is) = tt
  replaced_shorter text read (dollar rest more e f none h) =
      shorter_with (36 ∷ []) more (length rest) (suc (length rest)) (omega arith) (replaced_shorter rest more h)
  replaced_shorter text read (bracket rest e f) = tt

  -- and shorter where the text doesn't stop at once
  pub replaced_on : (p : Piece) (rest : List Piece) (read : Read (List ℕ)) → stop p ≡ false → IsReplaced whole manner vars stop (p ∷ rest) read
      → IfOk read (λ r. length r.1 ≤ length rest)
  replaced_on p rest read go (stopped q left e) = absurd (true≢false (sym e ∙ go))
  replaced_on p rest read go (joined left more e h) = shorter_with (32 ∷ []) more (length left) (length left) (omega arith) (replaced_shorter left more h)
  replaced_on p rest read go (taken b left more e h) = shorter_with (meant b ∷ []) more (length left) (length left) (omega arith) (replaced_shorter left more h)
  replaced_on p rest read go (plain b left more e f h) = shorter_with (b ∷ []) more (length left) (length left) (omega arith) (replaced_shorter left more h)
  replaced_on p rest read go (variable between left name value more e f v is h) =
      shorter_with value more (length left) (length between) (variable_shorter between name left v) (replaced_shorter left more h)
  replaced_on p rest read go (unset between left name e f v is) = tt
  replaced_on p rest read go (dollar left more e f none h) =
      shorter_with (36 ∷ []) more (length left) (length left) (omega arith) (replaced_shorter left more h)
  replaced_on p rest read go (bracket left e f) = tt

-- Where a quote stands in the text, reading stops at a quote.
quote_behind : (name : List ℕ) (left : List Piece) → list_all is_name_byte name ≡ true → list_any (is_byte 34) (map byte name ++ left) ≡ true
    → list_any (is_byte 34) left ≡ true
quote_behind [] left each h = h
quote_behind (b ∷ name) left each h = by (b == 34) refl h (quote_behind name left (and_second (is_name_byte b) (list_all is_name_byte name) each))
  where
    first : is_name_byte b ≡ true
    first = and_first (is_name_byte b) (list_all is_name_byte name) each

    by : (t : Bool) → (b == 34) ≡ t → (t || list_any (is_byte 34) (map byte name ++ left)) ≡ true
        → (list_any (is_byte 34) (map byte name ++ left) ≡ true → list_any (is_byte 34) left ≡ true) → list_any (is_byte 34) left ≡ true
    by true e h later = absurd (false≢true (subst (λ c. is_name_byte c ≡ true) (eqb-true b 34 e) first))
    by false e h later = later h

quote_behind_variable : (text : List Piece) (name : List ℕ) (left : List Piece) → IsVariable text name left → list_any (is_byte 34) text ≡ true
    → list_any (is_byte 34) left ≡ true
quote_behind_variable text name left (bare n behind is_name stop) h = quote_behind n behind is_name.each h
quote_behind_variable text name left (braced n behind is_name) h = quote_behind n (byte 125 ∷ behind) is_name.each h

quote_with : (front : List ℕ) (read : Read (List ℕ)) → IfOk read (λ r. begins (is_byte 34) r.1 ≡ true)
    → IfOk (with_text front read) (λ r. begins (is_byte 34) r.1 ≡ true)
quote_with front (Ok r) h = h
quote_with front (Err f) h = tt

pub stops_at_quote : (whole : List Piece) (manner : Manner) (vars : Variables) (text : List Piece) (read : Read (List ℕ))
    → IsReplaced whole manner vars (is_byte 34) text read → list_any (is_byte 34) text ≡ true → IfOk read (λ r. begins (is_byte 34) r.1 ≡ true)
stops_at_quote whole manner vars text read over h = absurd (false≢true h)
stops_at_quote whole manner vars text read (stopped p rest e) h = e
stops_at_quote whole manner vars text read (joined rest more e i) h = quote_with (32 ∷ []) more (stops_at_quote whole manner vars rest more i h)
stops_at_quote whole manner vars text read (taken b rest more e i) h = quote_with (meant b ∷ []) more (stops_at_quote whole manner vars rest more i h)
stops_at_quote whole manner vars text read (plain b rest more e f i) h =
    quote_with (b ∷ []) more (stops_at_quote whole manner vars rest more i (let or : ((b == 34) || list_any (is_byte 34) rest) ≡ true = h in rw e at or))
stops_at_quote whole manner vars text read (variable rest left name value more e f v is i) h =
    quote_with value more (stops_at_quote whole manner vars left more i (quote_behind_variable rest name left v h))
stops_at_quote whole manner vars text read (unset rest left name e f v is) h = tt
stops_at_quote whole manner vars text read (dollar rest more e f none i) h = quote_with (36 ∷ []) more (stops_at_quote whole manner vars rest more i h)
stops_at_quote whole manner vars text read (bracket rest e f) h = tt
