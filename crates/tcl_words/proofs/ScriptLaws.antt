-- A script is read in one way, or has one fault, and never both.
use Rattle.std.proofs.Common.{◌≡◌, ℕ, zero, suc, Bool, true, false, not, ◌&&◌, List, [], ◌∷◌, ◌⊎◌, inl, inr, Result, Ok, Err, codes, eqb-true, refl, sym, ◌∙◌, ap, length, ◌<◌, ◌≤◌, arith, subst}
use Rattle.std.proofs.lemmas.Bool.{false≢true}
use Rattle.std.specs.Cmp.Lexicographic.{bytes_decides}
use Rattle.pw_defs.specs.declared.faults.TclFault.{TclFault}
use Rattle.pw_defs.specs.declared.script.Line.{Line}
use Rattle.tcl_words.specs.Pieces.{Piece, byte, escaped, carried, is_byte, begins}
use Rattle.tcl_words.specs.Laws.{ScriptsReadInOneWay}
use Rattle.tcl_words.specs.ScriptWords.{is_backslash, is_carried_over, IsComment, over, ends, carries, goes_on, begins_command, is_setting, with_line, AreLines, between, comment, set, line, faulty, ReadsAsLines, HasTclFault}
use Rattle.tcl_words.specs.ScriptWords.AreLines.{over as no_lines}
use Rattle.tcl_words.specs.TclFaults.{line_of}
use Rattle.tcl_words.specs.Words.{Read, command, Variables, is_stop, AreWords}
use Rattle.tcl_words.specs.Cuts.{pieces_of}
use Rattle.tcl_words.proofs.Cuts.{has_pieces, only_pieces}
use Rattle.tcl_words.proofs.VariableNames.{is_byte-true}
use Rattle.tcl_words.proofs.WordReading.{read_words, only_words, words_so, words_on}

-- what is left behind a comment; the piece before may be a backslash
abbrev pub behind_comment : Bool → List Piece → List Piece
behind_comment backslash [] = []
behind_comment backslash (p ∷ rest) =
    elim (is_byte 10 p) [ true ↦ elim backslash [ true ↦ behind_comment false rest | false ↦ p ∷ rest ] | false ↦ behind_comment (is_backslash p) rest ]

-- where no newline follows, it is the same whether a backslash stands before
no_newline : (t : Bool) (rest : List Piece) → begins (is_byte 10) rest ≡ false → behind_comment t rest ≡ behind_comment false rest
no_newline t [] h = refl
no_newline t (p ∷ rest) h = rw (h, behind_comment) refl

only_comment : (text left : List Piece) → IsComment text left → behind_comment false text ≡ left
only_comment text left over = refl
only_comment text left (ends rest) = refl
only_comment text left (carries rest behind h) = only_comment rest behind h
only_comment text left (goes_on p rest behind e f h) = rw (e, behind_comment) (by (is_backslash p) f ∙ only_comment rest behind h)
  where
    by : (t : Bool) → (t && begins (is_byte 10) rest) ≡ false → behind_comment t rest ≡ behind_comment false rest
    by true g = no_newline true rest g
    by false g = refl

is_backslash-true : (p : Piece) → is_backslash p ≡ true → p ≡ escaped 92
is_backslash-true (byte b) h = absurd (false≢true h)
is_backslash-true (escaped b) h = ap escaped (eqb-true b 92 h)
is_backslash-true carried h = absurd (false≢true h)

-- the comment that goes on with the text, and the one that goes on with it behind a backslash
comments : (text : List Piece) → IsComment text (behind_comment false text) × IsComment (escaped 92 ∷ text) (behind_comment true text)
comments [] = (over, goes_on (escaped 92) [] [] refl refl over)
comments (p ∷ rest) = by (is_byte 10 p) refl (comments rest)
  where
    Goal : (t u : Bool) → Type 0
    Goal t u =
        IsComment (p ∷ rest) (elim t [ true ↦ p ∷ rest | false ↦ behind_comment u rest ])
        × IsComment (escaped 92 ∷ p ∷ rest) (elim t [ true ↦ behind_comment false rest | false ↦ behind_comment u rest ])

    goes : is_byte 10 p ≡ false → (u : Bool) → is_backslash p ≡ u
        → IsComment rest (behind_comment false rest) × IsComment (escaped 92 ∷ rest) (behind_comment true rest)
        → IsComment (p ∷ rest) (behind_comment u rest)
    goes e true f h = subst (λ q. IsComment (q ∷ rest) (behind_comment true rest)) (sym (is_backslash-true p f)) h.1
    goes e false f h = goes_on p rest (behind_comment false rest) e (rw (f, is_carried_over) refl) h.0

    by : (t : Bool) → is_byte 10 p ≡ t → IsComment rest (behind_comment false rest) × IsComment (escaped 92 ∷ rest) (behind_comment true rest)
        → Goal t (is_backslash p)
    by true e h =
        let newline : p ≡ byte 10 = is_byte-true 10 p e in (
          subst (λ q. IsComment (q ∷ rest) (q ∷ rest)) (sym newline) (ends rest),
          subst (λ q. IsComment (escaped 92 ∷ q ∷ rest) (behind_comment false rest)) (sym newline) (carries rest (behind_comment false rest) h.0),
        )
    by false e h =
        let here = goes e (is_backslash p) refl h in
        (here, goes_on (escaped 92) (p ∷ rest) (behind_comment (is_backslash p) rest) refl e here)

pub comment_so : (text : List Piece) → IsComment text (behind_comment false text)
comment_so text = (comments text).0

pub comment_shorter : (text left : List Piece) → IsComment text left → length left ≤ length text
comment_shorter text left over = omega arith
comment_shorter text left (ends rest) = omega arith
comment_shorter text left (carries rest behind h) = let less : length behind ≤ length rest = comment_shorter rest behind h in omega arith
comment_shorter text left (goes_on p rest behind e f h) = let less : length behind ≤ length rest = comment_shorter rest behind h in omega arith

-- the variables behind a line that gives one its text
abbrev pub set_in : Variables → List (List ℕ) → Variables
set_in vars (word ∷ name ∷ value ∷ []) = (name, value) ∷ vars
set_in vars _ = vars

abbrev Later : Type 0
Later = Variables → List Piece → Result (List Line) TclFault

abbrev read_line : List Piece → Later → Variables → List Piece → List (List ℕ) → List Piece → Bool → Result (List Line) TclFault
read_line whole later vars text words left true = later (set_in vars words) left
read_line whole later vars text words left false = with_line (record { number = line_of whole text; words = words }) (later vars left)

abbrev read_command : List Piece → Later → Variables → List Piece → Read (List (List ℕ)) → Result (List Line) TclFault
read_command whole later vars text (Ok read) = read_line whole later vars text read.0 read.1 (is_setting read.0)
read_command whole later vars text (Err fault) = Err fault

-- the lines, with fuel for as many pieces as are read
abbrev read_lines : List Piece → ℕ → Variables → List Piece → Result (List Line) TclFault
read_lines whole zero vars text = Ok []
read_lines whole (suc n) vars [] = Ok []
read_lines whole (suc n) vars (p ∷ rest) =
    elim (is_stop command p) [
      | true ↦ read_lines whole n vars rest
      | false ↦ elim (is_byte 35 p) [
        | true ↦ read_lines whole n vars (behind_comment false rest)
        | false ↦ read_command whole (read_lines whole n) vars (p ∷ rest) (read_words whole command vars (suc (suc (length rest))) (p ∷ rest))
      ]
    ]

-- the command lines of a script, or its first fault
abbrev pub script_lines : List ℕ → Result (List Line) TclFault
script_lines text = read_lines (pieces_of text) (suc (length (pieces_of text))) [] (pieces_of text)

not_either : (t u : Bool) → (not t && not u) ≡ true → (t ≡ false) × (u ≡ false)
not_either true u h = absurd (false≢true h)
not_either false true h = absurd (false≢true h)
not_either false false h = (refl, refl)

-- what is shorter than the text of a command
pub command_shorter : (whole : List Piece) (vars : Variables) (p : Piece) (rest : List Piece) (words : List (List ℕ)) (left : List Piece)
    → begins_command (p ∷ rest) ≡ true
    → AreWords whole command vars (p ∷ rest) (Ok (words, left)) → length left < suc (length rest)
command_shorter whole vars p rest words left begin h =
    words_on whole command vars (p ∷ rest) (Ok (words, left)) (not_either (is_stop command p) (is_byte 35 p) begin).0 h

module _ (whole : List Piece) where
  -- each reading of the lines is the one that is computed
  only_lines : (vars : Variables) (text : List Piece) (read : Result (List Line) TclFault) → AreLines whole vars text read → (n : ℕ) → length text < n
      → read_lines whole n vars text ≡ read
  only_lines vars text read h zero enough = absurd (omega arith)
  only_lines vars text read (no_lines v) (suc n) enough = refl
  only_lines vars text read (between v p rest more e h) (suc n) enough = rw (e, read_lines) (only_lines v rest more h n (omega arith))
  only_lines vars text read (comment v rest left more c h) (suc n) enough =
      let less : length left ≤ length rest = comment_shorter rest left c in
      ap (read_lines whole n v) (only_comment rest left c) ∙ only_lines v left more h n (omega arith)
  only_lines vars text read (set v [] left name value more begin w h) (suc n) enough = absurd (false≢true begin)
  only_lines vars text read (set v (p ∷ rest) left name value more begin w h) (suc n) enough =
      let both = not_either (is_stop command p) (is_byte 35 p) begin in
      let less : length left < suc (length rest) = command_shorter whole v p rest (codes "set" ∷ name ∷ value ∷ []) left begin w in
      let words : read_words whole command v (suc (suc (length rest))) (p ∷ rest) ≡ Ok (codes "set" ∷ name ∷ value ∷ [], left)
      = only_words whole command v (p ∷ rest) (Ok (codes "set" ∷ name ∷ value ∷ [], left)) w (suc (suc (length rest))) (omega arith) in
      rw (both.0, read_lines, both.1) (ap (read_command whole (read_lines whole n) v (p ∷ rest)) words ∙ only_lines ((name, value) ∷ v) left more h n (omega arith))
  only_lines vars text read (line v [] left words more begin w plain h) (suc n) enough = absurd (false≢true begin)
  only_lines vars text read (line v (p ∷ rest) left words more begin w plain h) (suc n) enough =
      let both = not_either (is_stop command p) (is_byte 35 p) begin in
      let less : length left < suc (length rest) = command_shorter whole v p rest words left begin w in
      let read : read_words whole command v (suc (suc (length rest))) (p ∷ rest) ≡ Ok (words, left)
      = only_words whole command v (p ∷ rest) (Ok (words, left)) w (suc (suc (length rest))) (omega arith) in
      rw (both.0, read_lines, both.1)
      (
      ap (read_command whole (read_lines whole n) v (p ∷ rest)) read
      ∙ ap (read_line whole (read_lines whole n) v (p ∷ rest) words left) plain
      ∙ ap (with_line (record { number = line_of whole (p ∷ rest); words = words })) (only_lines v left more h n (omega arith))
      )
  only_lines vars text read (faulty v [] fault begin w) (suc n) enough = absurd (false≢true begin)
  only_lines vars text read (faulty v (p ∷ rest) fault begin w) (suc n) enough =
      let both = not_either (is_stop command p) (is_byte 35 p) begin in
      rw (both.0, read_lines, both.1)
      (ap (read_command whole (read_lines whole n) v (p ∷ rest)) (only_words whole command v (p ∷ rest) (Err fault) w (suc (suc (length rest))) (omega arith)))

  pub setting : (words : List (List ℕ)) → is_setting words ≡ true → (name : List ℕ) × (value : List ℕ) × (words ≡ codes "set" ∷ name ∷ value ∷ [])
  setting [] h = absurd (false≢true h)
  setting (w ∷ []) h = absurd (false≢true h)
  setting (w ∷ name ∷ []) h = absurd (false≢true h)
  setting (w ∷ name ∷ value ∷ []) h = (name, value, ap (λ x. x ∷ name ∷ value ∷ []) ((bytes_decides w (codes "set")).0 h))
  setting (w ∷ name ∷ value ∷ x ∷ more) h = absurd (false≢true h)

  -- and the one that is computed is a reading
  lines_so : (n : ℕ) (vars : Variables) (text : List Piece) → length text < n → AreLines whole vars text (read_lines whole n vars text)
  lines_so zero vars text enough = absurd (omega arith)
  lines_so (suc n) vars [] enough = no_lines vars
  lines_so (suc n) vars (p ∷ rest) enough = by (is_stop command p) refl (is_byte 35 p) refl (λ v left less. lines_so n v left (omega arith))
    where
      words : Read (List (List ℕ))
      words = read_words whole command vars (suc (suc (length rest))) (p ∷ rest)

      Shorter : Type 0
      Shorter = (v : Variables) (left : List Piece) → length left ≤ length rest → AreLines whole v left (read_lines whole n v left)

      on_line : begins_command (p ∷ rest) ≡ true → Shorter → (ws : List (List ℕ)) (left : List Piece) → AreWords whole command vars (p ∷ rest) (Ok (ws, left))
          → (t : Bool) → is_setting ws ≡ t → AreLines whole vars (p ∷ rest) (read_line whole (read_lines whole n) vars (p ∷ rest) ws left t)
      on_line begin later ws left h true sets =
          let less : length left < suc (length rest) = command_shorter whole vars p rest ws left begin h in
          let found = setting ws sets in
          subst (λ us. AreLines whole vars (p ∷ rest) (read_lines whole n (set_in vars us) left)) (sym found.2)
          (
          set vars (p ∷ rest) left found.0 found.1 (read_lines whole n ((found.0, found.1) ∷ vars) left) begin
          (subst (λ us. AreWords whole command vars (p ∷ rest) (Ok (us, left))) found.2 h) (later ((found.0, found.1) ∷ vars) left (omega arith))
          )
      on_line begin later ws left h false plain =
          let less : length left < suc (length rest) = command_shorter whole vars p rest ws left begin h in
          line vars (p ∷ rest) left ws (read_lines whole n vars left) begin h plain (later vars left (omega arith))

      on_words : begins_command (p ∷ rest) ≡ true → Shorter → (read : Read (List (List ℕ))) → AreWords whole command vars (p ∷ rest) read
          → AreLines whole vars (p ∷ rest) (read_command whole (read_lines whole n) vars (p ∷ rest) read)
      on_words begin later (Ok read) h = on_line begin later read.0 read.1 h (is_setting read.0) refl
      on_words begin later (Err fault) h = faulty vars (p ∷ rest) fault begin h

      by : (t : Bool) → is_stop command p ≡ t → (u : Bool) → is_byte 35 p ≡ u → Shorter
          → AreLines whole vars (p ∷ rest)
          (elim t [
            | true ↦ read_lines whole n vars rest
            | false ↦ elim u [ true ↦ read_lines whole n vars (behind_comment false rest) | false ↦ read_command whole (read_lines whole n) vars (p ∷ rest) words ]
          ])
      by true e u f later = between vars p rest (read_lines whole n vars rest) e (later vars rest (omega arith))
      by false e true f later =
          subst (λ q. AreLines whole vars (q ∷ rest) (read_lines whole n vars (behind_comment false rest))) (sym (is_byte-true 35 p f))
          (
          comment vars rest (behind_comment false rest) (read_lines whole n vars (behind_comment false rest)) (comment_so rest)
          (later vars (behind_comment false rest) (comment_shorter rest (behind_comment false rest) (comment_so rest)))
          )
      by false e false f later =
          let begin : begins_command (p ∷ rest) ≡ true = rw (e, begins_command, f) refl in
          on_words begin later words (words_so whole command vars (suc (suc (length rest))) (p ∷ rest) (omega arith))

pub lines_read : (text : List ℕ) (lines : List Line) → script_lines text ≡ Ok lines → ReadsAsLines text lines
lines_read text lines e =
    record {
      pieces = pieces_of text;
      cut = has_pieces text;
      lines_are = subst (λ read. AreLines (pieces_of text) [] (pieces_of text) read) e
          (lines_so (pieces_of text) (suc (length (pieces_of text))) [] (pieces_of text) (omega arith));
    }

pub fault_read : (text : List ℕ) (fault : TclFault) → script_lines text ≡ Err fault → HasTclFault text fault
fault_read text fault e =
    record {
      pieces = pieces_of text;
      cut = has_pieces text;
      fault_is = subst (λ read. AreLines (pieces_of text) [] (pieces_of text) read) e
          (lines_so (pieces_of text) (suc (length (pieces_of text))) [] (pieces_of text) (omega arith));
    }

pub only_lines_read : (text : List ℕ) (lines : List Line) → ReadsAsLines text lines → script_lines text ≡ Ok lines
only_lines_read text lines h =
    ap (λ ps. read_lines ps (suc (length ps)) [] ps) (only_pieces text h.pieces h.cut)
    ∙ only_lines h.pieces [] h.pieces (Ok lines) h.lines_are (suc (length h.pieces)) (omega arith)

pub only_fault_read : (text : List ℕ) (fault : TclFault) → HasTclFault text fault → script_lines text ≡ Err fault
only_fault_read text fault h =
    ap (λ ps. read_lines ps (suc (length ps)) [] ps) (only_pieces text h.pieces h.cut)
    ∙ only_lines h.pieces [] h.pieces (Err fault) h.fault_is (suc (length h.pieces)) (omega arith)

-- a script is read as one list of lines
pub one_script : (text : List ℕ) (lines others : List Line) → ReadsAsLines text lines → ReadsAsLines text others → lines ≡ others
one_script text lines others h k =
    let here : script_lines text ≡ Ok lines = only_lines_read text lines h in
    let there : script_lines text ≡ Ok others = only_lines_read text others k in
    cc

-- it has one fault at most
pub one_script_fault : (text : List ℕ) (fault other : TclFault) → HasTclFault text fault → HasTclFault text other → fault ≡ other
one_script_fault text fault other h k =
    let here : script_lines text ≡ Err fault = only_fault_read text fault h in
    let there : script_lines text ≡ Err other = only_fault_read text other k in
    cc

-- a script with a fault is not read
pub lines_or_fault : (text : List ℕ) (lines : List Line) (fault : TclFault) → ReadsAsLines text lines → HasTclFault text fault → ⊥
lines_or_fault text lines fault h k =
    let here : script_lines text ≡ Ok lines = only_lines_read text lines h in
    let there : script_lines text ≡ Err fault = only_fault_read text fault k in
    cc

-- each text is read or has a fault
pub each_script : (text : List ℕ) → ((lines : List Line) × ReadsAsLines text lines) ⊎ ((fault : TclFault) × HasTclFault text fault)
each_script text = by (script_lines text) refl
  where
    by : (read : Result (List Line) TclFault) → script_lines text ≡ read
        → ((lines : List Line) × ReadsAsLines text lines) ⊎ ((fault : TclFault) × HasTclFault text fault)
    by (Ok lines) e = inl (lines, lines_read text lines e)
    by (Err fault) e = inr (fault, fault_read text fault e)

pub scripts_read_in_one_way : ScriptsReadInOneWay
scripts_read_in_one_way = record { one_value = one_script; one_fault = one_script_fault; not_both = lines_or_fault; either = each_script }
