-- How calls that load scripts end over the files of a shelf, and what its counts show.
use Rattle.std.specs.Prelude.{◌≡◌, ◌≤◌, ℕ, Bool, true, false, List, length, Option, Some, Result, Ok, Err, IfSome}
use Rattle.plain_lists.specs.declared.faults.Memory.{Memory as OutOfMemory}
use Rattle.pw_defs.specs.declared.faults.Code.{Code}
use Rattle.pw_defs.specs.declared.faults.Code.TheVariants.{F1, F2}
use Rattle.pw_defs.specs.declared.faults.LoadFault.{LoadFault}
use Rattle.pw_defs.specs.declared.faults.LoadFault.TheVariants.{Refused, Outside, Memory}
use Rattle.pw_defs.specs.declared.faults.Refusal.{Refusal}
use Rattle.pw_defs.specs.declared.faults.TclFault.{TclFault}
use Rattle.pw_outer.specs.Counts.{Counts, Rose}
use Rattle.pw_outer.specs.Fetches.{Files, file_named}
use Rattle.script_defs.specs.Refused.{Readers, text_refusal}
use Rattle.script_defs.specs.Runs.{longest_file}

-- the text of the file of a name, where there is one
abbrev pub held_by : Files → List ℕ → Option (List ℕ)
held_by files name = file_named name files

-- a file that is there and isn't too long
abbrev pub IsHeld : Files → List ℕ → List ℕ → Type 0
IsHeld files name text = (file_named name files ≡ Some text) × (length text ≤ longest_file)

-- whether a code is one of files that aren't there or are too long
abbrev pub is_file_code : Code → Bool
is_file_code F1 = true
is_file_code F2 = true
is_file_code _ = false

-- a file that isn't there, and one that is too long, show in the counts
abbrev pub ShowsInCounts : Counts → Counts → Code → Type 0
ShowsInCounts old new F1 = Rose old.misses new.misses
ShowsInCounts old new F2 = Rose old.overs new.overs
ShowsInCounts old new code = Unit {0}

-- Why a call stops: with a refusal that the files give, where the shelf tells what it holds; because the outside failed; for
-- want of memory.
abbrev pub StopsLoad : Option Files → (Files → Refusal → Type 0) → Counts → Counts → LoadFault → Type 0
StopsLoad held Is old new (Refused r) = IfSome held (λ files. Is files r) × ShowsInCounts old new r.code
StopsLoad held Is old new Outside = Rose old.faults new.faults
StopsLoad held Is old new Memory = Unit {0}

-- the refusal of a text by a fault of its words
pub record IsUnreadable (readers : Readers) (name text : List ℕ) (r : Refusal) : Type 0 where
  pub fault : TclFault
  pub has : readers.HasScriptFault text fault
  pub shown : text_refusal name fault ≡ Some r

-- why the lines of a text aren't read
abbrev pub StopsReading : Readers → List ℕ → List ℕ → LoadFault → Type 0
StopsReading readers name text (Refused r) = IsUnreadable readers name text r
StopsReading readers name text Outside = ⊥
StopsReading readers name text Memory = Unit {0}

-- a refusal that could be made, or want of memory
abbrev pub IsStopOf : Result Refusal OutOfMemory → LoadFault → Type 0
IsStopOf (Ok r) fault = fault ≡ Refused r
IsStopOf (Err e) fault = fault ≡ Memory
