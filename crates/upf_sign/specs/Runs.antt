-- How a run ends, and what is seen of it outside.
use Rattle.std.specs.Prelude.{◌≡◌, ℕ, ◌⊎◌, Bool, true, false, List, Option, IfSome, if◌then◌else◌}
use Rattle.pw_defs.specs.declared.faults.Code.TheVariants.{F1, F2}
use Rattle.pw_defs.specs.declared.faults.Refusal.{Refusal}
use Rattle.pw_defs.specs.declared.status.Status.{Status}
use Rattle.pw_defs.specs.declared.status.Status.TheVariants.{Clean, Findings, Refused, Usage, Bound, Outside, Memory}
use Rattle.pw_outer.specs.Counts.{Counts, Rose}
use Rattle.pw_outer.specs.Fetches.{Files}
use Rattle.pw_outer.specs.Puts.{Grew, GrewByFront}
use Rattle.upf_sign.specs.declared.answers.Answer.{Answer}
use Rattle.upf_sign.specs.declared.answers.Answer.TheVariants.{Report, OtherForm, NoLegal, Bound as BoundAnswer}
use Rattle.upf_sign.specs.Faults.{IsAnsweredBy, IsFault}
use Rattle.upf_sign.specs.Words.{Job, IsJob}

-- the words are a job, and over the files this is answered on it
pub record Deserve (words : List (List ℕ)) (files : Files) (answer : Answer) : Type 0 where
  pub job : Job
  pub is_job : IsJob words job
  pub answered : IsAnsweredBy files job answer

-- the words are a job that has a report, and the report has P
pub record HasReport (words : List (List ℕ)) (files : Files) (clean : Bool) (P : List ℕ → Type 0) : Type 0 where
  pub text : List ℕ
  pub deserved : Deserve words files (Report text clean)
  pub has : P text

-- What the sink of the report took: the report that the job deserves, of which one with findings is told by the status;
-- where the outside failed or memory ran out, a front of that report or nothing; else nothing.
abbrev pub Outputs : List (List ℕ) → Files → Status → Option (List ℕ) → Option (List ℕ) → Type 0
Outputs words files Clean old new = HasReport words files true (Grew old new)
Outputs words files Findings old new = HasReport words files false (Grew old new)
Outputs words files Refused old new = new ≡ old
Outputs words files Usage old new = new ≡ old
Outputs words files Bound old new = new ≡ old
Outputs words files Outside old new = (new ≡ old) ⊎ ((clean : Bool) × HasReport words files clean (GrewByFront old new))
Outputs words files Memory old new = (new ≡ old) ⊎ ((clean : Bool) × HasReport words files clean (GrewByFront old new))

-- without a report nothing is put to its sink, unless the sink itself failed or memory ran out
abbrev pub KeepsOutput : {K : Type 0} → Status → K → K → Type 0
KeepsOutput Clean old new = Unit {0}
KeepsOutput Findings old new = Unit {0}
KeepsOutput Refused old new = new ≡ old
KeepsOutput Usage old new = new ≡ old
KeepsOutput Bound old new = new ≡ old
KeepsOutput Outside old new = Unit {0}
KeepsOutput Memory old new = Unit {0}

-- beside a whole report nothing is put to the sink of errors
abbrev pub KeepsErrors : {E : Type 0} → Status → E → E → Type 0
KeepsErrors Clean old new = new ≡ old
KeepsErrors Findings old new = new ≡ old
KeepsErrors Refused old new = Unit {0}
KeepsErrors Usage old new = Unit {0}
KeepsErrors Bound old new = Unit {0}
KeepsErrors Outside old new = Unit {0}
KeepsErrors Memory old new = Unit {0}

-- a sink took the whole line, or a front of it where it failed
abbrev pub TookLine : Option (List ℕ) → Option (List ℕ) → ℕ → ℕ → List ℕ → Type 0
TookLine old new faults more line = Grew old new line ⊎ (GrewByFront old new line × Rose faults more)

-- a file that is absent or too long shows in the counts of the shelf
pub record ShowsInCounts (old new : Counts) (r : Refusal) : Type 0 where
  pub absent : r.code ≡ F1 → Rose old.misses new.misses
  pub too_long : r.code ≡ F2 → Rose old.overs new.overs

-- the words are a job with this fault, which is its first one where the shelf tells what it holds
pub record IsRefused (words : List (List ℕ)) (held : Option Files) (old new : Counts) (r : Refusal) : Type 0 where
  pub job : Job
  pub is_job : IsJob words job
  pub fault : IfSome held (λ files. IsFault files job r)
  pub counted : ShowsInCounts old new r

-- no failure shows in the counts of the shelf and of the sink of the report
abbrev pub IsUndisturbed : Counts → Counts → ℕ → ℕ → Type 0
IsUndisturbed old new faults more = (Rose old.faults new.faults → ⊥) × (Rose faults more → ⊥)

abbrev pub status_of : Bool → Status
status_of clean = if clean then Clean else Findings

-- how a run ends that is answered so
abbrev pub status_for : Answer → Status
status_for (Report text clean) = status_of clean
status_for OtherForm = Refused
status_for NoLegal = Refused
status_for BoundAnswer = Bound
