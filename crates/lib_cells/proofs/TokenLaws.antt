-- Tokens that pass a test, and arguments.
use Rattle.std.proofs.Common.{◌≡◌, ◌-◌, ℕ, Bool, true, List, [], ◌∷◌, ◌++◌, map, length, Some, None, Result, Ok, Err, refl, sym, ap, ◌∙◌, if◌then◌else◌}
use Rattle.text_defs.specs.Grammar.{Reading, read, and_then}
use Rattle.text_defs.specs.Phrases.{many}
use Rattle.text_defs.specs.Tokens.{Token, of_class, one_of}
use Rattle.text_streams.specs.declared.stops.Stop.{Stop}
use Rattle.text_streams.specs.Answers.{Answers, Gives, with_front}
use Rattle.text_streams.proofs.AnswerLaws.{gives_as}
use Rattle.lib_cells.specs.LibraryWords.{LibraryClass}
use Rattle.lib_cells.specs.Groups.{further_argument, goes_on, is_plain_word, is_word, most, some_arguments}
use Rattle.lib_cells.specs.Streams.{text_of, word_view}
use Rattle.lib_cells.specs.declared.lexer.Word.{Word}

abbrev Words : Type 0
Words = List (Token LibraryClass)

pub taken_there : {A B : Type 0} (b : Bool) (x : A) (other : B) → b ≡ true → (if b then Some x else None) ≡ Some x
taken_there b x other e = rw e refl

some_of : (old rest : Words) (w : Token LibraryClass) → read (one_of is_word) old ≡ Ok (w, rest)
    → read some_arguments old ≡ with_front (w.text ∷ []) (read (many most (of_class goes_on) further_argument) rest)
unfolding read
some_of old rest w e = rw e (by (read (many most (of_class goes_on) further_argument) rest))
  where
    by : (r : Reading (Token LibraryClass) (List (List ℕ))) → and_then r (λ xs left. Ok (w.text ∷ xs, left)) ≡ with_front (w.text ∷ []) r
    by (Ok p) = refl
    by (Err left) = refl

pub some_stop : (old new : Words) → read (one_of is_word) old ≡ Err new → read some_arguments old ≡ Err new
unfolding read
some_stop old new e = rw e refl

-- the arguments that a first one and a loop over the further ones make
pub some_read : (old rest : Words) (x : Word) (front : List Word) (r : Result (List Word) Stop) (new : Words)
    → read (one_of is_word) old ≡ Ok (word_view x, rest) → front ≡ [] ++ x ∷ []
    → Gives (map text_of) (with_front (map text_of front) (read (many (4294967296 - length front) (of_class goes_on) further_argument) rest)) r new
    → Answers (map text_of) some_arguments old r new
some_read old rest x front r new e is h =
    gives_as (map text_of) some_arguments old (with_front (map text_of front) (read (many (4294967296 - length front) (of_class goes_on) further_argument) rest)) r new
    (some_of old rest (word_view x) e ∙ ap (λ l. with_front (map text_of l) (read (many (4294967296 - length l) (of_class goes_on) further_argument) rest)) (sym is)) h

-- the texts of words, as the grammar sees them
pub texts_of : (words : List Word) (last : Word) (all : List Word) → all ≡ words ++ last ∷ []
    → map (λ (t : Token LibraryClass). t.text) (map word_view words ++ word_view last ∷ []) ≡ map text_of all
texts_of words last all is = texts words ∙ ap (map text_of) (sym is)
  where
    texts : (ws : List Word) → map (λ (t : Token LibraryClass). t.text) (map word_view ws ++ word_view last ∷ []) ≡ map text_of (ws ++ last ∷ [])
    texts [] = refl
    texts (w ∷ ws) = ap (λ l. w.text.now ∷ l) (texts ws)

-- a loop that begins with nothing
pub from_none : (front : List Word) (old : Words) (r : Result (List Word) Stop) (new : Words) → front ≡ []
    → Gives (map word_view) (with_front (map word_view front) (read (many (4294967295 - length front) (of_class is_plain_word) (one_of is_plain_word)) old)) r new
    → Answers (map word_view) (many most (of_class is_plain_word) (one_of is_plain_word)) old r new
from_none front old r new none h =
    gives_as (map word_view) (many most (of_class is_plain_word) (one_of is_plain_word)) old
    (with_front (map word_view front) (read (many (4294967295 - length front) (of_class is_plain_word) (one_of is_plain_word)) old)) r new
    (alone (read (many most (of_class is_plain_word) (one_of is_plain_word)) old)
    ∙ ap (λ l. with_front (map word_view l) (read (many (4294967295 - length l) (of_class is_plain_word) (one_of is_plain_word)) old)) (sym none)) h
  where
    alone : (s : Reading (Token LibraryClass) Words) → s ≡ with_front [] s
    alone (Ok p) = refl
    alone (Err left) = refl
