-- A list's text is parted in one way, or has one fault, and never both.
use Rattle.std.proofs.Common.{◌≡◌, ℕ, suc, List, [], ◌∷◌, ◌⊎◌, inl, inr, Result, Ok, Err, IfOk, refl, ◌∙◌, ap, length, arith, subst}
use Rattle.std.proofs.lemmas.Bool.{false≢true}
use Rattle.pw_defs.specs.declared.faults.TclFault.{TclFault}
use Rattle.tcl_words.specs.Laws.{ListsPartInOneWay}
use Rattle.tcl_words.specs.ListWords.{PartsInto, HasListFault}
use Rattle.tcl_words.specs.Pieces.{Piece}
use Rattle.tcl_words.specs.Words.{Read, list, Variables, AreWords, over, gap, word, with_word}
use Rattle.tcl_words.specs.Words.AreWords.{faulty}
use Rattle.tcl_words.specs.Cuts.{pieces_of}
use Rattle.tcl_words.proofs.Cuts.{has_pieces, only_pieces}
use Rattle.tcl_words.proofs.WordReading.{read_words, only_words, words_so}

-- what is read, without what is left
abbrev words_in : Read (List (List ℕ)) → Result (List (List ℕ)) TclFault
words_in (Ok read) = Ok read.0
words_in (Err fault) = Err fault

abbrev read_list : List Piece → Read (List (List ℕ))
read_list pieces = read_words pieces list [] (suc (length pieces)) pieces

-- the words of a list's text, or its first fault
abbrev pub parting : List ℕ → Result (List (List ℕ)) TclFault
parting text = words_in (read_list (pieces_of text))

-- a list is read to its end
pub to_end : (whole : List Piece) (vars : Variables) (text : List Piece) (read : Read (List (List ℕ))) → AreWords whole list vars text read
    → IfOk read (λ r. r.1 ≡ [])
to_end whole vars text read (over [] e) = refl
to_end whole vars text read (over (p ∷ rest) e) = absurd (false≢true e)
to_end whole vars text read (gap p rest more e h) = to_end whole vars rest more h
to_end whole vars text read (word front left w more go h later) = by more (to_end whole vars left more later)
  where
    by : (read : Read (List (List ℕ))) → IfOk read (λ r. r.1 ≡ []) → IfOk (with_word w read) (λ r. r.1 ≡ [])
    by (Ok r) h = h
    by (Err f) h = tt
to_end whole vars text read (faulty front fault go h) = tt

pub parts_so : (text : List ℕ) (words : List (List ℕ)) → parting text ≡ Ok words → PartsInto text words
parts_so text words e = by (read_list (pieces_of text)) (words_so (pieces_of text) list [] (suc (length (pieces_of text))) (pieces_of text) (omega arith)) e
  where
    by : (read : Read (List (List ℕ))) → AreWords (pieces_of text) list [] (pieces_of text) read → words_in read ≡ Ok words → PartsInto text words
    by (Ok r) h same =
        let done : r.1 ≡ [] = to_end (pieces_of text) [] (pieces_of text) (Ok r) h in
        let read : r.0 ≡ words = cc in
        record {
          pieces = pieces_of text;
          cut = has_pieces text;
          words_are = subst (λ left. AreWords (pieces_of text) list [] (pieces_of text) (Ok (words, left))) done
              (subst (λ ws. AreWords (pieces_of text) list [] (pieces_of text) (Ok (ws, r.1))) read h);
        }
    by (Err f) h same = absurd (cc)

pub fault_so : (text : List ℕ) (fault : TclFault) → parting text ≡ Err fault → HasListFault text fault
fault_so text fault e = by (read_list (pieces_of text)) (words_so (pieces_of text) list [] (suc (length (pieces_of text))) (pieces_of text) (omega arith)) e
  where
    by : (read : Read (List (List ℕ))) → AreWords (pieces_of text) list [] (pieces_of text) read → words_in read ≡ Err fault → HasListFault text fault
    by (Ok r) h same = absurd (cc)
    by (Err f) h same =
        let said : f ≡ fault = cc in
        record {
          pieces = pieces_of text;
          cut = has_pieces text;
          fault_is = subst (λ g. AreWords (pieces_of text) list [] (pieces_of text) (Err g)) said h;
        }

pub only_parts : (text : List ℕ) (words : List (List ℕ)) → PartsInto text words → parting text ≡ Ok words
only_parts text words h =
    ap (λ ps. words_in (read_list ps)) (only_pieces text h.pieces h.cut)
    ∙ ap words_in (only_words h.pieces list [] h.pieces (Ok (words, [])) h.words_are (suc (length h.pieces)) (omega arith))

pub only_fault : (text : List ℕ) (fault : TclFault) → HasListFault text fault → parting text ≡ Err fault
only_fault text fault h =
    ap (λ ps. words_in (read_list ps)) (only_pieces text h.pieces h.cut)
    ∙ ap words_in (only_words h.pieces list [] h.pieces (Err fault) h.fault_is (suc (length h.pieces)) (omega arith))

-- a text is parted in one way
pub one_parting : (text : List ℕ) (words others : List (List ℕ)) → PartsInto text words → PartsInto text others → words ≡ others
one_parting text words others h k =
    let here : parting text ≡ Ok words = only_parts text words h in
    let there : parting text ≡ Ok others = only_parts text others k in
    cc

-- it has one fault at most
pub one_list_fault : (text : List ℕ) (fault other : TclFault) → HasListFault text fault → HasListFault text other → fault ≡ other
one_list_fault text fault other h k =
    let here : parting text ≡ Err fault = only_fault text fault h in
    let there : parting text ≡ Err other = only_fault text other k in
    cc

-- a text with a fault is not parted
pub parts_or_fault : (text : List ℕ) (words : List (List ℕ)) (fault : TclFault) → PartsInto text words → HasListFault text fault → ⊥
parts_or_fault text words fault h k =
    let here : parting text ≡ Ok words = only_parts text words h in
    let there : parting text ≡ Err fault = only_fault text fault k in
    cc

-- each text is parted or has a fault
pub each_parted : (text : List ℕ) → ((words : List (List ℕ)) × PartsInto text words) ⊎ ((fault : TclFault) × HasListFault text fault)
each_parted text = by (parting text) refl
  where
    by : (read : Result (List (List ℕ)) TclFault) → parting text ≡ read
        → ((words : List (List ℕ)) × PartsInto text words) ⊎ ((fault : TclFault) × HasListFault text fault)
    by (Ok words) e = inl (words, parts_so text words e)
    by (Err fault) e = inr (fault, fault_so text fault e)

pub lists_part_in_one_way : ListsPartInOneWay
lists_part_in_one_way = record { one_value = one_parting; one_fault = one_list_fault; not_both = parts_or_fault; either = each_parted }
