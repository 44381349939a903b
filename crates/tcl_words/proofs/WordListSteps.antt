-- How the words of a text are read one after the other.
use Rattle.std.proofs.Common.{◌≡◌, ℕ, Bool, true, false, not, ◌&&◌, ◌||◌, List, [], ◌∷◌, ◌++◌, Ok, Err, refl, sym, ◌∙◌, ap, subst}
use Rattle.std.proofs.lemmas.List.{append_assoc, append-nil}
use Rattle.pw_defs.specs.declared.faults.TclFault.{TclFault}
use Rattle.tcl_words.specs.Cuts.{pieces_of}
use Rattle.tcl_words.specs.ListWords.{PartsInto, HasListFault}
use Rattle.tcl_words.specs.Pieces.{Piece, is_space, begins}
use Rattle.tcl_words.specs.Readings.{ReadWords, with_words}
use Rattle.tcl_words.specs.Words.{Manner, list, Variables, is_end, is_gap, ends, stops, IsWord, with_word, AreWords, over, word}
use Rattle.tcl_words.specs.Words.AreWords.{faulty as faulty_word}
use Rattle.tcl_words.proofs.Cuts.{has_pieces}
use Rattle.tcl_words.proofs.ListLaws.{to_end}

pub with_no_words : (words : List (List ℕ)) (read : ReadWords) → words ≡ [] → with_words words read ≡ read
with_no_words words (Ok r) e = ap (λ (ws : List (List ℕ)). Ok (ws ++ r.0, r.1)) e
with_no_words words (Err f) e = refl

word_behind : (front longer : List (List ℕ)) (w : List ℕ) (read : ReadWords) → longer ≡ front ++ w ∷ [] → with_words front (with_word w read) ≡ with_words longer read
word_behind front longer w (Ok r) e = ap (λ ws. Ok (ws, r.1)) (sym (append_assoc front (w ∷ []) r.0) ∙ ap (λ ws. ws ++ r.0) (sym e))
word_behind front longer w (Err f) e = refl

pub on_word : (manner : Manner) (text : List Piece) → begins (is_gap manner) text ≡ false → ends manner text ≡ false → stops manner text ≡ false
on_word manner [] ink on = on
on_word manner (p ∷ rest) ink on = by (is_space p) (is_end manner p) ink on
  where
    by : (t u : Bool) → (t && not u) ≡ false → u ≡ false → (t || u) ≡ false
    by true true ink on = on
    by true false ink on = ink
    by false u ink on = on

module _ (whole : List Piece) (manner : Manner) (vars : Variables) where
  -- a word behind those that are read
  pub word_goes : (all text left : List Piece) (front longer : List (List ℕ)) (w : List ℕ) → stops manner text ≡ false
      → IsWord whole manner vars text (Ok (w, left)) → longer ≡ front ++ w ∷ []
      → ((read : ReadWords) → AreWords whole manner vars text read → AreWords whole manner vars all (with_words front read))
      → (read : ReadWords) → AreWords whole manner vars left read → AreWords whole manner vars all (with_words longer read)
  word_goes all text left front longer w go here more so read h =
      subst (AreWords whole manner vars all) (word_behind front longer w read more) (so (with_word w read) (word text left w read go here h))

  -- what parts the words goes with them
  pub behind_gaps : (w all old new : List Piece) (words : List (List ℕ)) → w ≡ whole
      → ((read : ReadWords) → AreWords w manner vars new read → AreWords w manner vars old read)
      → ((read : ReadWords) → AreWords whole manner vars old read → AreWords whole manner vars all (with_words words read))
      → (read : ReadWords) → AreWords whole manner vars new read → AreWords whole manner vars all (with_words words read)
  behind_gaps w all old new words e same so read h =
      so read (subst (λ v. AreWords v manner vars old read) e (same read (subst (λ v. AreWords v manner vars new read) (sym e) h)))

  -- the end behind them
  pub words_over : (all left : List Piece) (words : List (List ℕ)) → ends manner left ≡ true
      → ((read : ReadWords) → AreWords whole manner vars left read → AreWords whole manner vars all (with_words words read))
      → AreWords whole manner vars all (Ok (words, left))
  words_over all left words e so = subst (λ ws. AreWords whole manner vars all (Ok (ws, left))) (append-nil words) (so (Ok ([], left)) (over left e))

  -- a fault behind them
  pub fault_behind : (all text : List Piece) (words : List (List ℕ)) (fault : TclFault) → stops manner text ≡ false
      → IsWord whole manner vars text (Err fault)
      → ((read : ReadWords) → AreWords whole manner vars text read → AreWords whole manner vars all (with_words words read))
      → AreWords whole manner vars all (Err fault)
  fault_behind all text words fault go here so = so (Err fault) (faulty_word text fault go here)

-- the words of a list's pieces are those of the list
pub parts_whole : (text : List ℕ) (words : List (List ℕ)) (left : List Piece) → AreWords (pieces_of text) list [] (pieces_of text) (Ok (words, left))
    → PartsInto text words
parts_whole text words left h =
    record {
      pieces = pieces_of text;
      cut = has_pieces text;
      words_are = subst (λ l. AreWords (pieces_of text) list [] (pieces_of text) (Ok (words, l))) (to_end (pieces_of text) [] (pieces_of text) (Ok (words, left)) h) h;
    }

pub list_fault : (text : List ℕ) (fault : TclFault) → AreWords (pieces_of text) list [] (pieces_of text) (Err fault) → HasListFault text fault
list_fault text fault h = record { pieces = pieces_of text; cut = has_pieces text; fault_is = h }
