-- How tasks lead to others, and where they stop.
use Rattle.std.specs.Prelude.{◌≡◌, ℕ, false, List, ◌++◌, Option}
use Rattle.pw_defs.specs.declared.design.Design.{Design}
use Rattle.pw_defs.specs.declared.faults.LoadFault.{LoadFault}
use Rattle.pw_defs.specs.declared.faults.LoadFault.TheVariants.{Refused, Outside, Memory}
use Rattle.pw_defs.specs.declared.faults.Refusal.{Refusal}
use Rattle.pw_defs.specs.declared.script.Line.{Line}
use Rattle.script_defs.specs.World.{Frame, World}
use Rattle.script_defs.specs.Refused.{Readers}
use Rattle.script_defs.specs.Runs.{Task, End, Ends, most_lines, tasks_of}
use Rattle.script_runs.specs.Outcomes.{is_file_code}

-- How the second tasks end, from the second frame and world on, is how the first do.
pub record Leads (readers : Readers) (held : List ℕ → Option (List ℕ)) (d : Design) (f : Frame) (w : World) (tasks : List Task) (g : Frame) (v : World) (later : List Task) : Type 0 where
  pub ends : (e : End) → Ends readers held most_lines d g v later e → Ends readers held most_lines d f w tasks e

-- The first tasks lead to the second, whatever is to be done behind both.
pub record GoesOn (readers : Readers) (held : List ℕ → Option (List ℕ)) (d : Design) (f : Frame) (w : World) (front : List Task) (g : Frame) (v : World) (rest : List Task) : Type 0 where
  pub leads : (tasks : List Task) → Leads readers held d f w (front ++ tasks) g v (rest ++ tasks)

-- The tasks stop with this refusal, whatever is to be done behind them.
pub record StopsAt (readers : Readers) (held : List ℕ → Option (List ℕ)) (d : Design) (f : Frame) (w : World) (front : List Task) (r : Refusal) : Type 0 where
  pub stops : (tasks : List Task) → Ends readers held most_lines d f w (front ++ tasks) (End.stopped r)

-- the lines of a frame make this world
abbrev pub LinesRun : Readers → (List ℕ → Option (List ℕ)) → Design → Frame → World → List Line → World → Type 0
LinesRun readers held d f w lines v = Ends readers held most_lines d f w (tasks_of lines) (End.ran v)

-- the lines of a frame stop with this refusal
abbrev pub LinesStop : Readers → (List ℕ → Option (List ℕ)) → Design → Frame → World → List Line → Refusal → Type 0
LinesStop readers held d f w lines r = Ends readers held most_lines d f w (tasks_of lines) (End.stopped r)

-- Why tasks stop, whatever the files: with a refusal that is none of a file, or for want of memory.
abbrev pub StopsTask : Readers → Design → Frame → World → List Task → LoadFault → Type 0
StopsTask readers d f w front (Refused r) = ((held : List ℕ → Option (List ℕ)) → StopsAt readers held d f w front r) × (is_file_code r.code ≡ false)
StopsTask readers d f w front Outside = ⊥
StopsTask readers d f w front Memory = Unit {0}
