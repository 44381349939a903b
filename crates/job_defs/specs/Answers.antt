-- What is answered on a job: the report on its files, or its first fault.
use Rattle.std.specs.Prelude.{◌≡◌, ℕ, Bool, true, false, List, [], ◌∷◌}
use Rattle.pw_defs.specs.declared.faults.Code.TheVariants.{U17}
use Rattle.pw_defs.specs.declared.faults.Refusal.{Refusal}
use Rattle.pw_defs.specs.declared.report.Finding.{Finding}
use Rattle.pw_defs.specs.declared.report.Report.{Report}
use Rattle.pw_outer.specs.Fetches.{Files}
use Rattle.signoff_defs.specs.Reports.{IsReport, HasNoLegalState}
use Rattle.signoff_defs.specs.ReportText.{report_text}
use Rattle.signoff_defs.specs.WorkLists.{MayPassBound}
use Rattle.step_defs.specs.Steps.{Step, and_then, giving, refusing}
use Rattle.job_defs.specs.FileFaults.{refusal}
use Rattle.job_defs.specs.Jobs.{Job, IsJob}
use Rattle.job_defs.specs.Loading.{Loaded, loaded}
use Rattle.job_defs.specs.Readers.{Readers}

-- the text of a report, which is clean where it has no findings
pub record Output : Type 0 where
  pub text : List ℕ
  pub clean : Bool

abbrev pub has_none : List Finding → Bool
has_none [] = true
has_none (f ∷ fs) = false

-- the report on a design with its intent
pub record IsOutputOn (l : Loaded) (o : Output) : Type 0 where
  pub report : Report
  pub is_report : IsReport l.design l.intent report
  pub text_is : o.text ≡ report_text report
  pub clean_is : o.clean ≡ has_none report.findings

-- no state is legal: U17 with the name of the top
pub record IsLegalFault (job : Job) (l : Loaded) (r : Refusal) : Type 0 where
  pub none : HasNoLegalState l.design l.intent
  pub fault : r ≡ refusal U17 job.script 0 job.top

-- a design with its intent has a report, where some state is legal
abbrev pub judged : Job → Loaded → Step Output Refusal
judged job l = and_then (refusing (IsLegalFault job l)) (λ _. giving (IsOutputOn l))

-- A job has a report, or a first fault: that its states have none comes last.
abbrev pub answered : Readers → Files → Job → Step Output Refusal
answered readers files job = and_then (loaded readers files job) (judged job)

-- what a job deserves over the files of a shelf
pub data Answer : Type 0 where
  output : Output → Answer
  refused : Refusal → Answer

abbrev pub IsAnswer : Readers → Files → Job → Answer → Type 0
IsAnswer readers files job (Answer.output o) = (answered readers files job).gives o
IsAnswer readers files job (Answer.refused r) = (answered readers files job).faults r

-- the words are a job, and this is answered on it
pub record Deserve (readers : Readers) (words : List (List ℕ)) (files : Files) (answer : Answer) : Type 0 where
  pub job : Job
  pub is_job : IsJob words job
  pub is_answer : IsAnswer readers files job answer

-- A job that loads may be given up where its work has more than 1,048,576 parts. It needn't be.
pub record MayBeGivenUp (readers : Readers) (files : Files) (job : Job) : Type 0 where
  pub load : Loaded
  pub loads : (loaded readers files job).gives load
  pub passes : MayPassBound load.design load.intent 1048576

-- A job whose answer is sure to come, if neither memory nor the outside fails.
pub record HasSureAnswer (readers : Readers) (words : List (List ℕ)) (files : Files) (answer : Answer) : Type 0 where
  pub deserved : Deserve readers words files answer
  pub within : (job : Job) → IsJob words job → ¬ MayBeGivenUp readers files job
