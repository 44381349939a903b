-- Things in a row, as a loop reads them.
use Rattle.std.proofs.Common.{◌≡◌, ℕ, ◌-◌, ◌<◌, Bool, true, false, List, [], ◌∷◌, ◌++◌, length, map, Result, Ok, Err, refl, sym, ap, ◌∙◌, arith}
use Rattle.text_defs.specs.Grammar.{Reading, read, next, passes, and_then}
use Rattle.text_defs.specs.Phrases.{many}
use Rattle.text_defs.specs.Tokens.{Token, of_class}
use Rattle.net_text.specs.NetlistTokens.{NetlistClass}
use Rattle.net_text.specs.NetlistClasses.{is_comma}
use Rattle.net_text.specs.NetlistGrammar.{NetlistGrammar, most, comma_list}
use Rattle.text_streams.proofs.AnswerLaws.{Keeps, gives_as, kept_end, kept_fault}
use Rattle.text_streams.specs.declared.stops.Stop.{Stop}
use Rattle.text_streams.specs.declared.stops.Stop.TheVariants as stops
use Rattle.text_streams.specs.Answers.{Answers, Gives, with_front}
use Rattle.net_text.specs.CommaLists.{further, comma_then}

abbrev pub Tokens : Type 0
Tokens = List (Token NetlistClass)

pub answers_as : {X A : Type 0} (view : X → A) (g : NetlistGrammar A) (old : Tokens) (h : NetlistGrammar A) (r : Result X Stop) (new : Tokens)
    → read g old ≡ read h old → Answers view h old r new → Answers view g old r new
answers_as view g old h (Ok x) new e k = e ∙ k
answers_as view g old h (Err stops.Fault) new e k = e ∙ k
answers_as view g old h (Err stops.Memory) new e k = tt

-- a list is its first thing and the further ones
pub list_of : {A : Type 0} (thing : NetlistGrammar A) (old rest : Tokens) (x : A) → read thing old ≡ Ok (x, rest)
    → read (comma_list thing) old ≡ with_front (x ∷ []) (read (further thing) rest)
unfolding read
list_of {A} thing old rest x e = rw e (by (read (further thing) rest))
  where
    by : (r : Reading (Token NetlistClass) (List A)) → and_then r (λ xs left. Ok (x ∷ xs, left)) ≡ with_front (x ∷ []) r
    by (Ok p) = refl
    by (Err left) = refl

pub list_stops : {A : Type 0} (thing : NetlistGrammar A) (old new : Tokens) → read thing old ≡ Err new → read (comma_list thing) old ≡ Err new
unfolding read
list_stops thing old new e = rw e refl

one_left : (n : ℕ) → n ≡ 1 → 4294967296 - n ≡ most
one_left n e = omega (arith, e)

module _ {X A : Type 0} (view : X → A) (thing : NetlistGrammar A) (before all : List X) (old tokens : Tokens)
    (kept : Keeps view (of_class is_comma) (comma_then thing) 4294967296 all tokens before old) (one : length before ≡ 1) where
  whole : with_front (map view before) (read (further thing) old) ≡ with_front (map view before) (read (many (4294967296 - length before) (of_class is_comma) (comma_then thing)) old)
  whole = ap (λ (n : ℕ). with_front (map view before) (read (many n (of_class is_comma) (comma_then thing)) old)) (sym (one_left (length before) one))

  pub further_fault : (left : Tokens) → length all < 4294967296 → passes (of_class is_comma) (next tokens) ≡ true → read (comma_then thing) tokens ≡ Err left
      → with_front (map view before) (read (further thing) old) ≡ Err left
  further_fault left lt more e = whole ∙ kept_fault view (of_class is_comma) (comma_then thing) 4294967296 before all old tokens kept left lt more e

  pub further_end : passes (of_class is_comma) (next tokens) ≡ false → with_front (map view before) (read (further thing) old) ≡ Ok (map view all, tokens)
  further_end stops = whole ∙ kept_end view (of_class is_comma) (comma_then thing) 4294967296 before all old tokens kept stops

-- the list that a first thing and a loop over the further ones make
pub list_read : {X A : Type 0} (view : X → A) (thing : NetlistGrammar A) (old rest : Tokens) (x : X) (front : List X) (r : Result (List X) Stop) (new : Tokens)
    → read thing old ≡ Ok (view x, rest) → front ≡ [] ++ x ∷ [] → Gives (map view) (with_front (map view front) (read (further thing) rest)) r new
    → Answers (map view) (comma_list thing) old r new
list_read view thing old rest x front r new e is h =
    gives_as (map view) (comma_list thing) old (with_front (map view front) (read (further thing) rest)) r new
    (list_of thing old rest (view x) e ∙ ap (λ l. with_front (map view l) (read (further thing) rest)) (sym is)) h

pub front_none : {A : Type 0} (r : Reading (Token NetlistClass) (List A)) → with_front [] r ≡ r
front_none (Ok p) = refl
front_none (Err left) = refl

-- things in a row from the first on
module _ {X A : Type 0} (view : X → A) (begins : Token NetlistClass → Bool) (phrase : NetlistGrammar A) (all : List X) (old tokens : Tokens) where
  pub row_begins : all ≡ [] → Keeps view begins phrase 4294967295 all old [] old
  row_begins e = ap (λ (l : List X). with_front (map view l) (read (many (4294967295 - length l) begins phrase) old)) e

  pub row_fault : Keeps view begins phrase 4294967295 all tokens [] old → (left : Tokens) → length all < 4294967295 → passes begins (next tokens) ≡ true
      → read phrase tokens ≡ Err left → read (many most begins phrase) old ≡ Err left
  row_fault kept left lt more e = sym (front_none (read (many most begins phrase) old)) ∙ kept_fault view begins phrase 4294967295 [] all old tokens kept left lt more e

  pub row_end : Keeps view begins phrase 4294967295 all tokens [] old → passes begins (next tokens) ≡ false → read (many most begins phrase) old ≡ Ok (map view all, tokens)
  row_end kept stops = sym (front_none (read (many most begins phrase) old)) ∙ kept_end view begins phrase 4294967295 [] all old tokens kept stops

map_itself : {A : Type 0} (xs : List A) → map (λ (x : A). x) xs ≡ xs
map_itself [] = refl
map_itself (x ∷ xs) = ap (λ l. x ∷ l) (map_itself xs)

-- a list that is seen as it is
pub plain_list : {A : Type 0} (g : NetlistGrammar (List A)) (old new : Tokens) (r : Result (List A) Stop) → Answers (map (λ (x : A). x)) g old r new
    → Answers (λ (xs : List A). xs) g old r new
plain_list g old new (Ok xs) h = h ∙ ap (λ l. Ok (l, new)) (map_itself xs)
plain_list g old new (Err stops.Fault) h = h
plain_list g old new (Err stops.Memory) h = tt

-- a row stops where one thing of it does, further on
pub row_stopped : {X Y A B : Type 0} (v : X → A) (view : Y → B) (g : NetlistGrammar A) (h : NetlistGrammar B) (old tokens new : Tokens) (e : Stop)
    → Answers v g tokens (Err e) new → (read g tokens ≡ Err new → read h old ≡ Err new) → Answers view h old (Err e) new
row_stopped v view g h old tokens new stops.Fault is k = k is
row_stopped v view g h old tokens new stops.Memory is k = tt
