-- What is planned for the words of a run.
use Rattle.std.proofs.Common.{◌≡◌, ℕ, inl, inr, List, Option, Result, Ok, Err, ap}
use Rattle.std.specs.Prelude.{IfSome, IfOk, IfErr}
use Rattle.pw_defs.specs.declared.faults.Code.TheVariants.{F1, F2, U17, Z1}
use Rattle.pw_defs.specs.declared.faults.Refusal.{Refusal}
use Rattle.pw_outer.specs.Counts.{Counts}
use Rattle.pw_outer.specs.Fetches.{Files}
use Rattle.upf_sign.specs.declared.answers.Answer.{Answer}
use Rattle.upf_sign.specs.declared.answers.Answer.TheVariants.{Report, OtherForm, NoLegal, Bound as BoundAnswer}
use Rattle.upf_sign.specs.declared.fetching.Texts.{Texts}
use Rattle.upf_sign.specs.declared.planning.Finished.{Finished}
use Rattle.upf_sign.specs.declared.planning.Stop.{Stop}
use Rattle.upf_sign.specs.declared.planning.Stop.TheVariants.{Usage, Refused, Bound, Outside, Memory}
use Rattle.upf_sign.specs.Faults.{IsAnsweredBy, of_form, of_states}
use Rattle.upf_sign.specs.Fetching.{HasTexts}
use Rattle.upf_sign.specs.Planning.{Answers, IsAnswerTo, Stops}
use Rattle.upf_sign.specs.Runs.{Deserve, ShowsInCounts}
use Rattle.upf_sign.specs.Words.{Job, IsJob}
use Rattle.upf_sign.proofs.Fetched.{on_some}

answered_by : (files : Files) (job : Job) (texts : Texts) (answer : Answer) → HasTexts files job texts → IsAnswerTo texts job answer → IsAnsweredBy files job answer
answered_by files job texts answer has is = record {
  library = texts.library.items;
  netlist = texts.netlist.items;
  script = texts.script.items;
  library_held = has.library_held;
  netlist_held = has.netlist_held;
  script_held = has.script_held;
  is_answer = is;
}

pub planned_report : (words : List (List ℕ)) (held : Option Files) (job : Job) (texts : Texts) (r : Result Finished Stop) → IsJob words job → IfSome held (λ files. HasTexts files job texts)
    → Answers texts job r → IfOk r (λ f. IfSome held (λ files. Deserve words files (Report f.text f.clean)))
planned_report words held job texts (Err stop) is_job has answers = tt
planned_report words held job texts (Ok f) is_job has answers =
    on_some held (λ files is here. record { job = job; is_job = is_job; answered = answered_by files job texts (Report f.text f.clean) here answers }) has

-- another fault than that of a file
uncounted : (old new : Counts) (r : Refusal) → ((r.code ≡ F1) → ⊥) → ((r.code ≡ F2) → ⊥) → ShowsInCounts old new r
uncounted old new r not_absent not_long = record { absent = λ is. absurd (not_absent is); too_long = λ is. absurd (not_long is) }

pub planned_stop : (words : List (List ℕ)) (held : Option Files) (old new : Counts) (job : Job) (texts : Texts) (r : Result Finished Stop) → IsJob words job
    → IfSome held (λ files. HasTexts files job texts) → Answers texts job r → IfErr r (λ stop. Stops words held old new stop)
planned_stop words held old new job texts (Ok f) is_job has answers = tt
planned_stop words held old new job texts (Err Usage) is_job has answers = absurd answers
planned_stop words held old new job texts (Err (Refused r)) is_job has (inl is) = record {
  job = job;
  is_job = is_job;
  fault = on_some held (λ files here texts_are. of_form (answered_by files job texts OtherForm texts_are is.0) is.1) has;
  counted = uncounted old new r (λ e. (let code : r.code ≡ Z1 = ap (λ (x : Refusal). x.code) is.1 in cc)) (λ e. (let code : r.code ≡ Z1 = ap (λ (x : Refusal). x.code) is.1 in cc));
}
planned_stop words held old new job texts (Err (Refused r)) is_job has (inr is) = record {
  job = job;
  is_job = is_job;
  fault = on_some held (λ files here texts_are. of_states (answered_by files job texts NoLegal texts_are is.0) is.1) has;
  counted = uncounted old new r (λ e. (let code : r.code ≡ U17 = ap (λ (x : Refusal). x.code) is.1 in cc)) (λ e. (let code : r.code ≡ U17 = ap (λ (x : Refusal). x.code) is.1 in cc));
}
planned_stop words held old new job texts (Err Bound) is_job has answers =
    (record { job = job; is_job = is_job }, on_some held (λ files here texts_are. record { job = job; is_job = is_job; answered = answered_by files job texts BoundAnswer texts_are answers }) has)
planned_stop words held old new job texts (Err Outside) is_job has answers = absurd answers
planned_stop words held old new job texts (Err Memory) is_job has answers = tt
