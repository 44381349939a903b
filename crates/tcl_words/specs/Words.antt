-- The words of a command or of a list, read from the left: each place either reads on or has a fault.
use Rattle.std.specs.Prelude.{◌≡◌, ◌≢◌, ℕ, suc, ◌==◌, Bool, true, false, not, ◌&&◌, ◌||◌, List, [], ◌∷◌, ◌++◌, map, Option, Some, None, Result, Ok, Err, if◌then◌else◌}
use Rattle.std.specs.List.{list_all, list_any}
use Rattle.std.specs.Char.{is_ascii_alphanumeric}
use Rattle.std.specs.Str.{bytes_eq}
use Rattle.pw_defs.specs.declared.faults.TclFault.{TclFault}
use Rattle.pw_defs.specs.declared.faults.TclFault.TheVariants.{T1, T2, T3, T4}
use Rattle.tcl_words.specs.Pieces.{Piece, byte, escaped, carried, is_byte, is_space, begins}
use Rattle.tcl_words.specs.TclFaults.{at, nameless}

-- what is read, and what is left of the text; or the first fault
abbrev pub Read : Type 0 → Type 0
Read X = Result (X × List Piece) TclFault

-- the words of a command, which end at a newline or `;`, or those of a list, which end with its text
pub data Manner : Type 0 where
  command : Manner
  list : Manner

-- whether a command ends at the piece; a list ends at none
abbrev pub is_end : Manner → Piece → Bool
is_end command p = is_byte 10 p || is_byte 59 p
is_end list p = false

-- whether the piece parts two words
abbrev pub is_gap : Manner → Piece → Bool
is_gap manner p = is_space p && not (is_end manner p)

-- whether a word ends at the piece
abbrev pub is_stop : Manner → Piece → Bool
is_stop manner p = is_space p || is_end manner p

-- whether the words end here
abbrev pub ends : Manner → List Piece → Bool
ends manner [] = true
ends manner (p ∷ rest) = is_end manner p

-- whether white space or the end stands here
abbrev pub stops : Manner → List Piece → Bool
stops manner [] = true
stops manner (p ∷ rest) = is_stop manner p

-- Behind an opening brace, with `depth` braces open inside it: the text up to the brace that closes it, and what is left
-- behind that. A backslash keeps its byte from counting; only a carried line is replaced, by a blank.
pub data IsBraced : ℕ → List Piece → List ℕ → List Piece → Type 0 where
  closes : (left : List Piece) → IsBraced 0 (byte 125 ∷ left) [] left
  inner_closes : (depth : ℕ) (rest left : List Piece) (text : List ℕ) → IsBraced depth rest text left → IsBraced (suc depth) (byte 125 ∷ rest) (125 ∷ text) left
  inner_opens : (depth : ℕ) (rest left : List Piece) (text : List ℕ) → IsBraced (suc depth) rest text left → IsBraced depth (byte 123 ∷ rest) (123 ∷ text) left
  plain : (depth b : ℕ) (rest left : List Piece) (text : List ℕ) → b ≢ 123 → b ≢ 125 → IsBraced depth rest text left
      → IsBraced depth (byte b ∷ rest) (b ∷ text) left
  kept : (depth b : ℕ) (rest left : List Piece) (text : List ℕ) → IsBraced depth rest text left → IsBraced depth (escaped b ∷ rest) (92 ∷ b ∷ text) left
  joined : (depth : ℕ) (rest left : List Piece) (text : List ℕ) → IsBraced depth rest text left → IsBraced depth (carried ∷ rest) (32 ∷ text) left

-- the byte that a backslash and a byte stand for: `\n` is a newline, `\t` a tab, any other the byte itself
abbrev pub meant : ℕ → ℕ
meant b = if b == 110 then 10 else if b == 116 then 9 else b

-- variables with their texts, the one set last in front
abbrev pub Variables : Type 0
Variables = List (List ℕ × List ℕ)

-- the text of a variable, where it is set
abbrev pub value_of : List ℕ → Variables → Option (List ℕ)
value_of name [] = None
value_of name (v ∷ vars) = if bytes_eq name v.0 then Some v.1 else value_of name vars

-- whether a variable's name may have the byte: a letter, a digit or `_`
abbrev pub is_name_byte : ℕ → Bool
is_name_byte b = is_ascii_alphanumeric b || b == 95

-- whether the piece may go on a variable's name
abbrev pub is_name_piece : Piece → Bool
is_name_piece (byte b) = is_name_byte b
is_name_piece (escaped b) = false
is_name_piece carried = false

-- a variable's name: one or more letters, digits and `_`
pub record IsVariableName (name : List ℕ) : Type 0 where
  pub some : name ≢ []
  pub each : list_all is_name_byte name ≡ true

-- Behind a `$`: the longest name, or a name in braces, and what is left behind it.
pub data IsVariable : List Piece → List ℕ → List Piece → Type 0 where
  bare : (name : List ℕ) (left : List Piece) → IsVariableName name → begins is_name_piece left ≡ false → IsVariable (map byte name ++ left) name left
  braced : (name : List ℕ) (left : List Piece) → IsVariableName name → IsVariable (byte 123 ∷ map byte name ++ byte 125 ∷ left) name left

-- whether a command replaces something at the byte: at a `$` or a `[`; a list replaces at neither
abbrev pub is_replaced : Manner → ℕ → Bool
is_replaced command b = b == 36 || b == 91
is_replaced list b = false

-- a text in front of what is read
abbrev pub with_text : List ℕ → Read (List ℕ) → Read (List ℕ)
with_text front (Ok read) = Ok (front ++ read.0, read.1)
with_text front (Err fault) = Err fault

-- A bare or quoted text up to where the test says stop, with backslashes and, in a command, variables replaced. A `[`
-- there is a fault, and so is a variable that isn't set.
pub data IsReplaced (whole : List Piece) (manner : Manner) (vars : Variables) (stop : Piece → Bool) : List Piece → Read (List ℕ) → Type 0 where
  over : IsReplaced whole manner vars stop [] (Ok ([], []))
  stopped : (p : Piece) (rest : List Piece) → stop p ≡ true → IsReplaced whole manner vars stop (p ∷ rest) (Ok ([], p ∷ rest))
  joined : (rest : List Piece) (read : Read (List ℕ)) → stop carried ≡ false → IsReplaced whole manner vars stop rest read
      → IsReplaced whole manner vars stop (carried ∷ rest) (with_text (32 ∷ []) read)
  taken : (b : ℕ) (rest : List Piece) (read : Read (List ℕ)) → stop (escaped b) ≡ false → IsReplaced whole manner vars stop rest read
      → IsReplaced whole manner vars stop (escaped b ∷ rest) (with_text (meant b ∷ []) read)
  plain : (b : ℕ) (rest : List Piece) (read : Read (List ℕ)) → stop (byte b) ≡ false → is_replaced manner b ≡ false
      → IsReplaced whole manner vars stop rest read
      → IsReplaced whole manner vars stop (byte b ∷ rest) (with_text (b ∷ []) read)
  variable : (rest left : List Piece) (name value : List ℕ) (read : Read (List ℕ)) → stop (byte 36) ≡ false → is_replaced manner 36 ≡ true
      → IsVariable rest name left → value_of name vars ≡ Some value → IsReplaced whole manner vars stop left read
      → IsReplaced whole manner vars stop (byte 36 ∷ rest) (with_text value read)
  unset : (rest left : List Piece) (name : List ℕ) → stop (byte 36) ≡ false → is_replaced manner 36 ≡ true
      → IsVariable rest name left → value_of name vars ≡ None
      → IsReplaced whole manner vars stop (byte 36 ∷ rest) (Err (T4 (at whole (byte 36 ∷ rest) name)))
  dollar : (rest : List Piece) (read : Read (List ℕ)) → stop (byte 36) ≡ false → is_replaced manner 36 ≡ true
      → ((name : List ℕ) (left : List Piece) → ¬ IsVariable rest name left) → IsReplaced whole manner vars stop rest read
      → IsReplaced whole manner vars stop (byte 36 ∷ rest) (with_text (36 ∷ []) read)
  bracket : (rest : List Piece) → stop (byte 91) ≡ false → is_replaced manner 91 ≡ true
      → IsReplaced whole manner vars stop (byte 91 ∷ rest) (Err (T3 (nameless whole (byte 91 ∷ rest))))

-- a closed word, where white space or the end follows it
abbrev pub closed : List Piece → Manner → List ℕ → List Piece → Read (List ℕ)
closed whole manner word left = if stops manner left then Ok (word, left) else Err (T2 (nameless whole left))

-- A word in braces, in quotes, or bare. Whether a brace or quote is ever closed is asked before anything is replaced.
pub data IsWord (whole : List Piece) (manner : Manner) (vars : Variables) : List Piece → Read (List ℕ) → Type 0 where
  braced : (rest left : List Piece) (word : List ℕ) → IsBraced 0 rest word left → IsWord whole manner vars (byte 123 ∷ rest) (closed whole manner word left)
  unbraced : (rest : List Piece) → ((word : List ℕ) (left : List Piece) → ¬ IsBraced 0 rest word left)
      → IsWord whole manner vars (byte 123 ∷ rest) (Err (T1 (nameless whole (byte 123 ∷ rest))))
  quoted : (rest left : List Piece) (word : List ℕ) → list_any (is_byte 34) rest ≡ true
      → IsReplaced whole manner vars (is_byte 34) rest (Ok (word, byte 34 ∷ left))
      → IsWord whole manner vars (byte 34 ∷ rest) (closed whole manner word left)
  unquoted : (rest : List Piece) → list_any (is_byte 34) rest ≡ false → IsWord whole manner vars (byte 34 ∷ rest) (Err (T1 (nameless whole (byte 34 ∷ rest))))
  faulty : (rest : List Piece) (fault : TclFault) → list_any (is_byte 34) rest ≡ true → IsReplaced whole manner vars (is_byte 34) rest (Err fault)
      → IsWord whole manner vars (byte 34 ∷ rest) (Err fault)
  bare : (p : Piece) (rest : List Piece) (read : Read (List ℕ)) → is_byte 123 p ≡ false → is_byte 34 p ≡ false
      → IsReplaced whole manner vars (is_stop manner) (p ∷ rest) read
      → IsWord whole manner vars (p ∷ rest) read

-- a word in front of those that are read
abbrev pub with_word : List ℕ → Read (List (List ℕ)) → Read (List (List ℕ))
with_word word (Ok read) = Ok (word ∷ read.0, read.1)
with_word word (Err fault) = Err fault

-- The words from here up to the end of the command or list.
pub data AreWords (whole : List Piece) (manner : Manner) (vars : Variables) : List Piece → Read (List (List ℕ)) → Type 0 where
  over : (left : List Piece) → ends manner left ≡ true → AreWords whole manner vars left (Ok ([], left))
  gap : (p : Piece) (rest : List Piece) (read : Read (List (List ℕ))) → is_gap manner p ≡ true → AreWords whole manner vars rest read
      → AreWords whole manner vars (p ∷ rest) read
  word : (text left : List Piece) (word : List ℕ) (read : Read (List (List ℕ))) → stops manner text ≡ false → IsWord whole manner vars text (Ok (word, left))
      → AreWords whole manner vars left read → AreWords whole manner vars text (with_word word read)
  faulty : (text : List Piece) (fault : TclFault) → stops manner text ≡ false → IsWord whole manner vars text (Err fault)
      → AreWords whole manner vars text (Err fault)
