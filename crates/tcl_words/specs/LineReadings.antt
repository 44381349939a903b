-- Which lines of a script are read so far.
use Rattle.std.specs.Prelude.{ℕ, List, [], ◌∷◌, ◌++◌, Result, Ok, Err}
use Rattle.pw_defs.specs.declared.faults.TclFault.{TclFault}
use Rattle.pw_defs.specs.declared.script.Line.{Line}
use Rattle.tcl_words.specs.Pieces.{Piece}
use Rattle.tcl_words.specs.ScriptWords.{AreLines}
use Rattle.tcl_words.specs.Settings.{Holds}
use Rattle.tcl_words.specs.Words.{Variables}
use Rattle.tcl_words.specs.declared.settings.Settings.{Settings}

abbrev pub Pieces : Type 0
Pieces = List Piece

-- the table behind a command that gives a variable its text
abbrev pub Sets : Settings → Variables → List (List ℕ) → Type 0
Sets settings vars (word ∷ name ∷ text ∷ []) = Holds settings ((name, text) ∷ vars)
Sets settings vars _ = ⊥

-- the lines that are read, or the first fault
abbrev pub ReadLines : Type 0
ReadLines = Result (List Line) TclFault

-- lines in front of what is read
abbrev pub with_lines : List Line → ReadLines → ReadLines
with_lines front (Ok lines) = Ok (front ++ lines)
with_lines front (Err fault) = Err fault

-- With the variables that the table holds, whatever lines the rest of the script has, they stand behind these in all of it.
abbrev pub AreLinesSoFar : List Piece → List Piece → Settings → List Line → List Piece → Type 0
AreLinesSoFar whole all settings lines left =
    (vars : Variables) × Holds settings vars × ((read : ReadLines) → AreLines whole vars left read → AreLines whole [] all (with_lines lines read))
