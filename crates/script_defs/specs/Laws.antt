-- What is asked of the readers of scripts, and what follows for runs: a script ends in one way.
use Rattle.std.specs.Prelude.{◌≡◌, ◌≢◌, ◌⊎◌, ℕ, true, List, Option}
use Rattle.pw_defs.specs.declared.design.Design.{Design}
use Rattle.pw_defs.specs.declared.faults.CmdFault.{CmdFault}
use Rattle.pw_defs.specs.declared.faults.TclFault.{TclFault}
use Rattle.pw_defs.specs.declared.script.Line.{Line}
use Rattle.pw_defs.specs.declared.faults.Refusal.{Refusal}
use Rattle.pw_defs.specs.declared.intent.Intent.{Intent}
use Rattle.pw_defs.specs.declared.intent.Want.{Want}
use Rattle.script_defs.specs.Statements.{Statement}
use Rattle.script_defs.specs.World.{Frame, World}
use Rattle.script_defs.specs.Blocks.{has_first_word}
use Rattle.script_defs.specs.Refused.{Readers}
use Rattle.script_defs.specs.Loads.{LoadsBy, HasFaultBy}
use Rattle.script_defs.specs.Runs.{Task, End, Ends, tasks_of}

-- A text reads as at most one list of lines or has at most one fault, and not both; so does a line, as one command.
pub record AreExact (readers : Readers) : Type 0 where
  pub one_script : (text : List ℕ) (a b : List Line) → readers.IsScript text a → readers.IsScript text b → a ≡ b
  pub one_script_fault : (text : List ℕ) (a b : TclFault) → readers.HasScriptFault text a → readers.HasScriptFault text b → a ≡ b
  pub script_or_fault : (text : List ℕ) (a : List Line) (b : TclFault) → readers.IsScript text a → readers.HasScriptFault text b → ⊥
  pub one_statement : (line : Line) (a b : Statement) → readers.IsStatement line a → readers.IsStatement line b → a ≡ b
  pub one_form_fault : (line : Line) (a b : CmdFault) → readers.HasFormFault line a → readers.HasFormFault line b → a ≡ b
  pub statement_or_fault : (line : Line) (a : Statement) (b : CmdFault) → readers.IsStatement line a → readers.HasFormFault line b → ⊥

-- Each text reads as lines or has a fault, and each line is a command or has a fault; a command has the name of its line.
pub record AreWhole (readers : Readers) : Type 0 where
  pub script : (text : List ℕ) → ((lines : List Line) × readers.IsScript text lines) ⊎ ((fault : TclFault) × readers.HasScriptFault text fault)
  pub statement : (line : Line) → ((s : Statement) × readers.IsStatement line s) ⊎ ((fault : CmdFault) × readers.HasFormFault line fault)
  pub script_fault : (text : List ℕ) (fault : TclFault) → readers.HasScriptFault text fault → fault ≢ TclFault.Memory
  pub form_fault : (line : Line) (fault : CmdFault) → readers.HasFormFault line fault → fault ≢ CmdFault.Memory
  pub named : (line : Line) (s : Statement) → readers.IsStatement line s → has_first_word s.name line.words ≡ true

-- The tasks of a frame end in one way: in one world or at one refusal, and not in both ways.
abbrev pub HasOneEnd : Type 1
HasOneEnd = (readers : Readers) → AreExact readers → (held : List ℕ
    → Option (List ℕ)) (limit : ℕ) (d : Design) (f : Frame) (w : World) (tasks : List Task) (a b : End)
    → Ends readers held limit d f w tasks a → Ends readers held limit d f w tasks b → a ≡ b

-- The lines of a frame end in some way, whatever the files.
abbrev pub HasSomeEnd : Type 1
HasSomeEnd = (readers : Readers) → AreWhole readers → (held : List ℕ → Option (List ℕ)) (limit : ℕ) (d : Design) (f : Frame) (w : World) (lines : List Line)
    → (e : End) × Ends readers held limit d f w (tasks_of lines) e

-- Loading a script has one outcome: one intent or one first fault, and not both.
pub record HasOneLoad (readers : Readers) : Type 0 where
  pub one_intent : (d : Design) (held : List ℕ → Option (List ℕ)) (name text : List ℕ) (want : Want) (i j : Intent)
      → LoadsBy readers held d name text want i → LoadsBy readers held d name text want j → i ≡ j
  pub one_fault : (d : Design) (held : List ℕ → Option (List ℕ)) (name text : List ℕ) (want : Want) (p q : Refusal)
      → HasFaultBy readers held d name text want p → HasFaultBy readers held d name text want q → p ≡ q
  pub not_both : (d : Design) (held : List ℕ → Option (List ℕ)) (name text : List ℕ) (want : Want) (i : Intent) (r : Refusal)
      → LoadsBy readers held d name text want i → HasFaultBy readers held d name text want r → ⊥
