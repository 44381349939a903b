-- How a whole script ends, and what a call that runs it answers.
use Rattle.std.specs.Prelude.{◌≡◌, ℕ, List, Option, Result, Ok, Err}
use Rattle.pw_defs.specs.declared.design.Design.{Design}
use Rattle.pw_defs.specs.declared.faults.LoadFault.{LoadFault}
use Rattle.pw_defs.specs.declared.faults.LoadFault.TheVariants.{Refused, Outside, Memory}
use Rattle.pw_defs.specs.declared.faults.Refusal.{Refusal}
use Rattle.pw_defs.specs.declared.script.Line.{Line}
use Rattle.pw_outer.specs.Counts.{Counts, Rose}
use Rattle.script_defs.specs.World.{World}
use Rattle.script_defs.specs.Refused.{Readers}
use Rattle.script_defs.specs.Runs.{StopsWith}
use Rattle.script_runs.specs.Outcomes.{IsUnreadable}

-- The script stops with this refusal: for its own words, or at a line, a file or a map.
pub data HasStop (readers : Readers) (held : List ℕ → Option (List ℕ)) (d : Design) (name text : List ℕ) (r : Refusal) : Type 0 where
  unreadable : IsUnreadable readers name text r → HasStop readers held d name text r
  stops : (lines : List Line) → readers.IsScript text lines → StopsWith readers held d name lines r → HasStop readers held d name text r

-- Where the script runs to the world w the call says so, and that world is made, unless the outside fails or memory runs out.
abbrev pub AnswersRun : {T : Type 0} → World → World → Counts → Counts → Result T LoadFault → Type 0
AnswersRun w made old new (Ok done) = made ≡ w
AnswersRun w made old new (Err (Refused r)) = ⊥
AnswersRun w made old new (Err Outside) = Rose old.faults new.faults
AnswersRun w made old new (Err Memory) = Unit {0}

-- Where the script stops with the refusal r the call says so, unless the outside fails or memory runs out.
abbrev pub AnswersStop : {T : Type 0} → Refusal → Counts → Counts → Result T LoadFault → Type 0
AnswersStop r old new (Ok done) = ⊥
AnswersStop r old new (Err (Refused s)) = s ≡ r
AnswersStop r old new (Err Outside) = Rose old.faults new.faults
AnswersStop r old new (Err Memory) = Unit {0}
