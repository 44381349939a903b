-- How the command lines of a script are read one after the other.
use Rattle.std.proofs.Common.{◌≡◌, ℕ, Bool, true, false, not, ◌&&◌, List, [], ◌∷◌, ◌++◌, Ok, Err, refl, sym, ◌∙◌, ap, subst, length, ◌<◌, ◌≤◌, arith}
use Rattle.std.proofs.lemmas.Bool.{false≢true}
use Rattle.std.proofs.lemmas.List.{append_assoc, append-nil}
use Rattle.std.specs.List.{slice_index_or}
use Rattle.pw_defs.specs.declared.faults.TclFault.{TclFault}
use Rattle.pw_defs.specs.declared.script.Line.{Line}
use Rattle.tcl_words.specs.Cuts.{pieces_of}
use Rattle.tcl_words.specs.LineReadings.{AreLinesSoFar, ReadLines, Sets, with_lines}
use Rattle.tcl_words.specs.Pieces.{Piece, byte, is_byte}
use Rattle.tcl_words.specs.ScriptWords.{is_backslash, IsComment, begins_command, is_setting, with_line, AreLines, between, comment, set, line, faulty, ReadsAsLines, HasTclFault}
use Rattle.tcl_words.specs.ScriptWords.AreLines.{over as no_lines}
use Rattle.tcl_words.specs.Settings.{Holds}
use Rattle.tcl_words.specs.TclFaults.{line_of}
use Rattle.tcl_words.specs.Words.{command, Variables, is_stop, AreWords}
use Rattle.tcl_words.specs.declared.settings.Settings.{Settings}
use Rattle.tcl_words.proofs.Cuts.{has_pieces}
use Rattle.tcl_words.proofs.ScriptLaws.{behind_comment, comment_shorter, comment_so, command_shorter, setting}
use Rattle.tcl_words.proofs.TextTrees.{held, variables_of}

-- a comment up to the end of the text
pub comment_over : (backslash : Bool) (text left : List Piece) → left ≡ [] → behind_comment backslash left ≡ behind_comment false text → IsComment text left
comment_over backslash text left is h = subst (IsComment text) (sym h ∙ ap (behind_comment backslash) is ∙ sym is) (comment_so text)

-- a comment up to a newline
pub comment_ends : (backslash : Bool) (text left rest : List Piece) (p : Piece) → left ≡ p ∷ rest → (is_byte 10 p && not backslash) ≡ true
    → behind_comment backslash left ≡ behind_comment false text → IsComment text left
comment_ends backslash text left rest p is ended h =
    subst (IsComment text) (sym h ∙ ap (behind_comment backslash) is ∙ by (is_byte 10 p) backslash ended ∙ sym is) (comment_so text)
  where
    by : (t u : Bool) → (t && not u) ≡ true
        → elim t [ true ↦ elim u [ true ↦ behind_comment false rest | false ↦ p ∷ rest ] | false ↦ behind_comment (is_backslash p) rest ] ≡ p ∷ rest
    by true false e = refl
    by true true e = absurd (false≢true e)
    by false u e = absurd (false≢true e)

-- a command is shorter by what its words take
pub command_less : (whole : List Piece) (settings : Settings) (text left : List Piece) (words : List (List ℕ)) → begins_command text ≡ true
    → ((vars : Variables) → Holds settings vars → AreWords whole command vars text (Ok (words, left))) → length left < length text
command_less whole settings [] left words begin here = absurd (false≢true begin)
command_less whole settings (p ∷ rest) left words begin here =
    command_shorter whole (variables_of settings) p rest words left begin (here (variables_of settings) (held settings))

line_behind : (front longer : List Line) (l : Line) (read : ReadLines) → longer ≡ front ++ l ∷ [] → with_lines front (with_line l read) ≡ with_lines longer read
line_behind front longer l (Ok lines) e = ap Ok (sym (append_assoc front (l ∷ []) lines) ∙ ap (λ ls. ls ++ lines) (sym e))
line_behind front longer l (Err f) e = refl

-- a command sets the variable that its words name
pub sets_so : (new : Settings) (words : List (List ℕ)) (name text : List ℕ) → is_setting words ≡ true → name ≡ slice_index_or words 1 name
    → text ≡ slice_index_or words 2 text → (vars : Variables) → Holds new ((name, text) ∷ vars) → Sets new vars words
sets_so new [] name text sets e f vars holds = absurd (false≢true sets)
sets_so new (w ∷ []) name text sets e f vars holds = absurd (false≢true sets)
sets_so new (w ∷ n ∷ []) name text sets e f vars holds = absurd (false≢true sets)
sets_so new (w ∷ n ∷ t ∷ []) name text sets e f vars holds =
    subst (λ m. Holds new ((m, t) ∷ vars)) e (subst (λ u. Holds new ((name, u) ∷ vars)) f holds)
sets_so new (w ∷ n ∷ t ∷ x ∷ more) name text sets e f vars holds = absurd (false≢true sets)

-- a comment is shorter than what its `#` begins
pub comment_less : (text rest left : List Piece) → text ≡ byte 35 ∷ rest → IsComment rest left → length left < length text
comment_less text rest left is h =
    subst (λ t. length left < length t) (sym is) (let less : length left ≤ length rest = comment_shorter rest left h in omega arith)

module _ (whole all : List Piece) where
  -- the lines go on behind a command that gives a variable its text
  pub set_goes : (text left : List Piece) (old new : Settings) (lines : List Line) (words : List (List ℕ)) → begins_command text ≡ true
      → is_setting words ≡ true → ((vars : Variables) → Holds old vars → AreWords whole command vars text (Ok (words, left)))
      → ((vars : Variables) → Holds old vars → Sets new vars words) → AreLinesSoFar whole all old lines text → AreLinesSoFar whole all new lines left
  set_goes text left old new lines words begin sets here put so =
      let found = setting whole words sets in (
        (found.0, found.1) ∷ so.0,
        subst (Sets new so.0) found.2 (put so.0 so.1),
        λ read h.
            so.2 read
            (set so.0 text left found.0 found.1 read begin (subst (λ ws. AreWords whole command so.0 text (Ok (ws, left))) found.2 (here so.0 so.1)) h),
      )

  -- and behind any other, which is a line
  pub line_goes : (text left : List Piece) (settings : Settings) (lines longer : List Line) (number : ℕ) (words : List (List ℕ)) → begins_command text ≡ true
      → is_setting words ≡ false → ((vars : Variables) → Holds settings vars → AreWords whole command vars text (Ok (words, left)))
      → number ≡ line_of whole text → longer ≡ lines ++ record { number = number; words = words } ∷ []
      → AreLinesSoFar whole all settings lines text → AreLinesSoFar whole all settings longer left
  line_goes text left settings lines longer number words begin plain here at more so = (
    so.0,
    so.1,
    λ read h.
        subst (AreLines whole [] all)
        (line_behind lines longer (record { number = line_of whole text; words = words }) read
        (more ∙ ap (λ (n : ℕ). lines ++ record { number = n; words = words } ∷ []) at))
        (so.2 (with_line (record { number = line_of whole text; words = words }) read) (line so.0 text left words read begin (here so.0 so.1) plain h)),
  )

  -- a command with a fault is the first fault
  pub command_fault : (text : List Piece) (settings : Settings) (lines : List Line) (fault : TclFault) → begins_command text ≡ true
      → ((vars : Variables) → Holds settings vars → AreWords whole command vars text (Err fault)) → AreLinesSoFar whole all settings lines text
      → AreLines whole [] all (Err fault)
  command_fault text settings lines fault begin here so = so.2 (Err fault) (faulty so.0 text fault begin (here so.0 so.1))

  -- white space and `;` are left out
  pub between_goes : (text rest : List Piece) (p : Piece) (settings : Settings) (lines : List Line) → text ≡ p ∷ rest → is_stop command p ≡ true
      → AreLinesSoFar whole all settings lines text → AreLinesSoFar whole all settings lines rest
  between_goes text rest p settings lines is stop so = (
    so.0,
    so.1,
    λ read h. so.2 read (subst (λ t. AreLines whole so.0 t read) (sym is) (between so.0 p rest read stop h)),
  )

  -- and so is a comment
  pub comment_goes : (text rest left : List Piece) (settings : Settings) (lines : List Line) → text ≡ byte 35 ∷ rest → IsComment rest left
      → AreLinesSoFar whole all settings lines text → AreLinesSoFar whole all settings lines left
  comment_goes text rest left settings lines is behind so = (
    so.0,
    so.1,
    λ read h. so.2 read (subst (λ t. AreLines whole so.0 t read) (sym is) (comment so.0 rest left read behind h)),
  )

  -- where nothing is left, the lines that are read are all
  pub lines_over : (left : List Piece) (settings : Settings) (lines : List Line) → left ≡ [] → AreLinesSoFar whole all settings lines left
      → AreLines whole [] all (Ok lines)
  lines_over left settings lines is so =
      subst (λ ls. AreLines whole [] all (Ok ls)) (append-nil lines) (so.2 (Ok []) (subst (λ t. AreLines whole so.0 t (Ok [])) (sym is) (no_lines so.0)))

-- before anything is read
pub none_so_far : (all : List Piece) (settings : Settings) (lines : List Line) → Holds settings [] → lines ≡ [] → AreLinesSoFar all all settings lines all
none_so_far all settings lines holds none = ([], holds, λ read h. subst (AreLines all [] all) (sym (by read)) h)
  where
    by : (read : ReadLines) → with_lines lines read ≡ read
    by (Ok ls) = ap (λ (front : List Line). Ok (front ++ ls)) none
    by (Err f) = refl

-- the lines of a script's pieces are those of the script
pub script_whole : (text : List ℕ) (lines : List Line) → AreLines (pieces_of text) [] (pieces_of text) (Ok lines) → ReadsAsLines text lines
script_whole text lines h = record { pieces = pieces_of text; cut = has_pieces text; lines_are = h }

pub script_fault : (text : List ℕ) (fault : TclFault) → AreLines (pieces_of text) [] (pieces_of text) (Err fault) → HasTclFault text fault
script_fault text fault h = record { pieces = pieces_of text; cut = has_pieces text; fault_is = h }
