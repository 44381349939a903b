-- Why a run has no report.
use Rattle.std.specs.Prelude.{◌≡◌, ◌⊎◌, ℕ, List, Option, Result, Ok, Err, IfSome}
use Rattle.pw_defs.specs.declared.faults.LoadFault.{LoadFault}
use Rattle.pw_defs.specs.declared.faults.LoadFault.TheVariants.{Refused as RefusedFault, Outside as OutsideFault, Memory as MemoryFault}
use Rattle.pw_outer.specs.Counts.{Counts, Rose}
use Rattle.pw_outer.specs.Fetches.{Files}
use Rattle.upf_sign.specs.declared.answers.Answer.{Answer}
use Rattle.upf_sign.specs.declared.answers.Answer.TheVariants.{Report, OtherForm, NoLegal, Bound as BoundAnswer}
use Rattle.upf_sign.specs.declared.fetching.Texts.{Texts}
use Rattle.upf_sign.specs.declared.planning.Finished.{Finished}
use Rattle.upf_sign.specs.declared.planning.Stop.{Stop}
use Rattle.upf_sign.specs.declared.planning.Stop.TheVariants.{Usage, Refused, Bound, Outside, Memory}
use Rattle.upf_sign.specs.Answers.{IsAnswer}
use Rattle.upf_sign.specs.Faults.{form_fault, legal_fault}
use Rattle.upf_sign.specs.Runs.{Deserve, IsRefused}
use Rattle.upf_sign.specs.Words.{Job, IsNoJob, HasJob}

-- what is answered on the texts of a job
abbrev pub IsAnswerTo : Texts → Job → Answer → Type 0
IsAnswerTo texts job answer = IsAnswer texts.library.items texts.netlist.items texts.script.items job.top answer

-- the texts have this report, or none for this reason
abbrev pub Answers : Texts → Job → Result Finished Stop → Type 0
Answers texts job (Ok finished) = IsAnswerTo texts job (Report finished.text finished.clean)
Answers texts job (Err Usage) = ⊥
Answers texts job (Err (Refused r)) = (IsAnswerTo texts job OtherForm × (r ≡ form_fault job)) ⊎ (IsAnswerTo texts job NoLegal × (r ≡ legal_fault job))
Answers texts job (Err Bound) = IsAnswerTo texts job BoundAnswer
Answers texts job (Err Outside) = ⊥
Answers texts job (Err Memory) = Unit {0}

-- the words are no job, or a job that has no report for this reason
abbrev pub Stops : List (List ℕ) → Option Files → Counts → Counts → Stop → Type 0
Stops words held old new Usage = IsNoJob words
Stops words held old new (Refused r) = IsRefused words held old new r
Stops words held old new Bound = HasJob words × IfSome held (λ files. Deserve words files BoundAnswer)
Stops words held old new Outside = HasJob words × Rose old.faults new.faults
Stops words held old new Memory = Unit {0}

-- a file that has no text leaves no report
abbrev pub stop_of : LoadFault → Stop
stop_of (RefusedFault r) = Refused r
stop_of OutsideFault = Outside
stop_of MemoryFault = Memory
