-- The command lines of a script.
use Rattle.std.specs.Prelude.{◌≡◌, ℕ, ◌==◌, Bool, true, false, not, ◌&&◌, List, [], ◌∷◌, Result, Ok, Err, codes}
use Rattle.std.specs.Str.{bytes_eq}
use Rattle.pw_defs.specs.declared.faults.TclFault.{TclFault}
use Rattle.pw_defs.specs.declared.script.Line.{Line}
use Rattle.tcl_words.specs.Pieces.{Piece, byte, escaped, carried, HasPieces, is_byte, begins}
use Rattle.tcl_words.specs.TclFaults.{line_of}
use Rattle.tcl_words.specs.Words.{command, Variables, is_stop, AreWords}

-- whether a piece is a backslash that another backslash takes along
abbrev pub is_backslash : Piece → Bool
is_backslash (byte b) = false
is_backslash (escaped b) = b == 92
is_backslash carried = false

-- whether a comment goes on behind the newline after the piece: a backslash stands directly before it
abbrev pub is_carried_over : Piece → List Piece → Bool
is_carried_over p rest = is_backslash p && begins (is_byte 10) rest

-- Behind a `#`: what is left from the newline on that ends the comment. A newline with a backslash directly before it
-- ends none.
pub data IsComment : List Piece → List Piece → Type 0 where
  over : IsComment [] []
  ends : (left : List Piece) → IsComment (byte 10 ∷ left) (byte 10 ∷ left)
  carries : (rest left : List Piece) → IsComment rest left → IsComment (escaped 92 ∷ byte 10 ∷ rest) left
  goes_on : (p : Piece) (rest left : List Piece) → is_byte 10 p ≡ false → is_carried_over p rest ≡ false → IsComment rest left → IsComment (p ∷ rest) left

-- whether a command begins here: something stands here that is no white space, no `;` and no `#`
abbrev pub begins_command : List Piece → Bool
begins_command [] = false
begins_command (p ∷ rest) = not (is_stop command p) && not (is_byte 35 p)

-- whether the words give a variable its text: `set`, a name and a text
abbrev pub is_setting : List (List ℕ) → Bool
is_setting (word ∷ name ∷ value ∷ []) = bytes_eq word (codes "set")
is_setting _ = false

-- a line in front of those that are read
abbrev pub with_line : Line → Result (List Line) TclFault → Result (List Line) TclFault
with_line line (Ok lines) = Ok (line ∷ lines)
with_line line (Err fault) = Err fault

-- The command lines from here on, with these variables set. `set` with a name and a text sets a variable and is no line;
-- `;` and newlines end a command; `#` in place of a command begins a comment.
pub data AreLines (whole : List Piece) : Variables → List Piece → Result (List Line) TclFault → Type 0 where
  over : (vars : Variables) → AreLines whole vars [] (Ok [])
  between : (vars : Variables) (p : Piece) (rest : List Piece) (read : Result (List Line) TclFault) → is_stop command p ≡ true
      → AreLines whole vars rest read → AreLines whole vars (p ∷ rest) read
  comment : (vars : Variables) (rest left : List Piece) (read : Result (List Line) TclFault) → IsComment rest left
      → AreLines whole vars left read → AreLines whole vars (byte 35 ∷ rest) read
  set : (vars : Variables) (text left : List Piece) (name value : List ℕ) (read : Result (List Line) TclFault) → begins_command text ≡ true
      → AreWords whole command vars text (Ok (codes "set" ∷ name ∷ value ∷ [], left))
      → AreLines whole ((name, value) ∷ vars) left read → AreLines whole vars text read
  line : (vars : Variables) (text left : List Piece) (words : List (List ℕ)) (read : Result (List Line) TclFault) → begins_command text ≡ true
      → AreWords whole command vars text (Ok (words, left)) → is_setting words ≡ false
      → AreLines whole vars left read → AreLines whole vars text (with_line (record { number = line_of whole text; words = words }) read)
  faulty : (vars : Variables) (text : List Piece) (fault : TclFault) → begins_command text ≡ true → AreWords whole command vars text (Err fault)
      → AreLines whole vars text (Err fault)

-- the script is these command lines, each at the line where its command begins
pub record ReadsAsLines (text : List ℕ) (lines : List Line) : Type 0 where
  pub pieces : List Piece
  pub cut : HasPieces text pieces
  pub lines_are : AreLines pieces [] pieces (Ok lines)

-- the script has no reading, and this is its first fault by place
pub record HasTclFault (text : List ℕ) (fault : TclFault) : Type 0 where
  pub pieces : List Piece
  pub cut : HasPieces text pieces
  pub fault_is : AreLines pieces [] pieces (Err fault)
