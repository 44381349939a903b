-- Phrases in a row, as a loop reads them, and parsers that stop where others do.
use Rattle.std.proofs.Common.{Result, ◌≡◌, ℕ, zero, suc, ◌+◌, ◌-◌, ◌<◌, Bool, true, false, List, [], ◌∷◌, ◌++◌, length, map, Ok, Err, refl, sym, ap, ◌∙◌, append_assoc, arith}
use Rattle.std.proofs.lemmas.List.{append-nil, length-append, map-append}
use Rattle.text_defs.specs.Grammar.{Grammar, Reading, read, next, passes, and_then}
use Rattle.text_defs.specs.Phrases.{many}
use Rattle.text_streams.specs.declared.stops.Stop.{Stop}
use Rattle.text_streams.specs.declared.stops.Stop.TheVariants as stops
use Rattle.text_streams.specs.Answers.{Answers, Gives, with_front}

module _ {K A : Type 0} (begins : K → Bool) (phrase : Grammar K A) where
  regroup : (front : List A) (x : A) (r : Reading K (List A)) → with_front front (and_then r (λ xs left. Ok (x ∷ xs, left))) ≡ with_front (front ++ x ∷ []) r
  regroup front x (Ok p) = ap (λ (l : List A). Ok (l, p.1)) (sym (append_assoc front (x ∷ []) p.0))
  regroup front x (Err left) = refl

  more_of : (m : ℕ) (tokens : List K) → passes begins (next tokens) ≡ true
      → read (many (suc m) begins phrase) tokens ≡ and_then (read phrase tokens) (λ x rest. and_then (read (many m begins phrase) rest) (λ xs left. Ok (x ∷ xs, left)))
  unfolding read many
  more_of m tokens more =
      ap (λ b. elim b [ true ↦ and_then (read phrase tokens) (λ x rest. and_then (read (many m begins phrase) rest) (λ xs left. Ok (x ∷ xs, left))) | false ↦ Ok ([], tokens) ]) more

  none_of : (n : ℕ) (tokens : List K) → passes begins (next tokens) ≡ false → read (many n begins phrase) tokens ≡ Ok ([], tokens)
  unfolding read many
  none_of zero tokens stops = refl
  none_of (suc n) tokens stops =
      ap (λ b. elim b [ true ↦ and_then (read phrase tokens) (λ x rest. and_then (read (many n begins phrase) rest) (λ xs left. Ok (x ∷ xs, left))) | false ↦ Ok ([], tokens) ]) stops

  pub many_on : (front : List A) (n m : ℕ) (tokens rest : List K) (x : A) → n ≡ suc m → passes begins (next tokens) ≡ true → read phrase tokens ≡ Ok (x, rest)
      → with_front front (read (many n begins phrase) tokens) ≡ with_front (front ++ x ∷ []) (read (many m begins phrase) rest)
  many_on front n m tokens rest x is more e =
      ap (λ (k : ℕ). with_front front (read (many k begins phrase) tokens)) is
      ∙ ap (with_front front) (more_of m tokens more ∙ ap (λ r. and_then r (λ x rest. and_then (read (many m begins phrase) rest) (λ xs left. Ok (x ∷ xs, left)))) e)
      ∙ regroup front x (read (many m begins phrase) rest)

  pub many_fails : (front : List A) (n m : ℕ) (tokens left : List K) → n ≡ suc m → passes begins (next tokens) ≡ true → read phrase tokens ≡ Err left
      → with_front front (read (many n begins phrase) tokens) ≡ Err left
  many_fails front n m tokens left is more e =
      ap (λ (k : ℕ). with_front front (read (many k begins phrase) tokens)) is
      ∙ ap (with_front front) (more_of m tokens more ∙ ap (λ r. and_then r (λ x rest. and_then (read (many m begins phrase) rest) (λ xs left. Ok (x ∷ xs, left)))) e)

  pub many_stops : (front : List A) (n : ℕ) (tokens : List K) → passes begins (next tokens) ≡ false → with_front front (read (many n begins phrase) tokens) ≡ Ok (front, tokens)
  many_stops front n tokens stops = ap (with_front front) (none_of n tokens stops) ∙ ap (λ (l : List A). Ok (l, tokens)) (append-nil front)

-- what a loop over things in a row keeps: what was read and what is left to read are what there was to read
abbrev pub Keeps : {K X A : Type 0} → (X → A) → (K → Bool) → Grammar K A → ℕ → List X → List K → List X → List K → Type 0
Keeps view begins phrase room all tokens before old =
    with_front (map view all) (read (many (room - length all) begins phrase) tokens) ≡ with_front (map view before) (read (many (room - length before) begins phrase) old)

module _ {K X A : Type 0} (view : X → A) (begins : K → Bool) (phrase : Grammar K A) (room : ℕ) (before all : List X) (old tokens : List K)
    (kept : Keeps view begins phrase room all tokens before old) where
  pub kept_on : (rest : List K) (x : X) (longer : List X) → length all < room → passes begins (next tokens) ≡ true → read phrase tokens ≡ Ok (view x, rest)
      → longer ≡ all ++ x ∷ [] → Keeps view begins phrase room longer rest before old
  kept_on rest x longer lt more e is =
      let long : length longer ≡ length all + 1 = ap length is ∙ length-append all (x ∷ []) in
      let n : room - length all ≡ suc (room - length longer) = omega (arith, lt, long) in
      let front : map view longer ≡ map view all ++ view x ∷ [] = ap (map view) is ∙ map-append view all (x ∷ []) in
      ap (λ (l : List A). with_front l (read (many (room - length longer) begins phrase) rest)) front
      ∙ sym (many_on begins phrase (map view all) (room - length all) (room - length longer) tokens rest (view x) n more e) ∙ kept

  pub kept_fault : (left : List K) → length all < room → passes begins (next tokens) ≡ true → read phrase tokens ≡ Err left
      → with_front (map view before) (read (many (room - length before) begins phrase) old) ≡ Err left
  kept_fault left lt more e =
      sym kept ∙ many_fails begins phrase (map view all) (room - length all) (room - length all - 1) tokens left (omega (arith, lt)) more e

  pub kept_end : passes begins (next tokens) ≡ false → with_front (map view before) (read (many (room - length before) begins phrase) old) ≡ Ok (map view all, tokens)
  kept_end stops = sym kept ∙ many_stops begins phrase (map view all) (room - length all) tokens stops

-- a parser's answer by what its grammar reads
pub gives_as : {K X A : Type 0} (view : X → A) (g : Grammar K A) (old : List K) (reading : Reading K A) (r : Result X Stop) (new : List K)
    → read g old ≡ reading → Gives view reading r new → Answers view g old r new
gives_as view g old reading (Ok x) new e h = e ∙ h
gives_as view g old reading (Err stops.Fault) new e h = e ∙ h
gives_as view g old reading (Err stops.Memory) new e h = tt

-- a parser that stops where another one does
pub stopped : {K X Y A B : Type 0} (v : X → A) (view : Y → B) (g : Grammar K A) (old new : List K) (reading : Reading K B) (e : Stop)
    → Answers v g old (Err e) new → (read g old ≡ Err new → reading ≡ Err new) → Gives view reading (Err e) new
stopped v view g old new reading stops.Fault h k = k h
stopped v view g old new reading stops.Memory h k = tt

pub stopped_first : {K X Y A B : Type 0} (v : X → A) (view : Y → B) (g : Grammar K A) (h : Grammar K B) (old new : List K) (e : Stop)
    → Answers v g old (Err e) new → (read g old ≡ Err new → read h old ≡ Err new) → Answers view h old (Err e) new
stopped_first v view g h old new stops.Fault is k = k is
stopped_first v view g h old new stops.Memory is k = tt
