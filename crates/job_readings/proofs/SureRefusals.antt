-- A job that is refused before it is judged is refused surely.
use Rattle.std.proofs.Common.{◌≡◌, ℕ, List, inl, subst}
use Rattle.pw_defs.specs.declared.faults.Refusal.{Refusal}
use Rattle.pw_outer.specs.Fetches.{Files}
use Rattle.job_defs.specs.Answers.{Answer}
use Rattle.job_defs.specs.Jobs.{Job, IsJob}
use Rattle.job_defs.proofs.OneAnswer.{exact_loaded}
use Rattle.job_defs.proofs.OneJob.{one_job}
use Rattle.job_readings.specs.Readings.{readers, DeservesSurely, HasLoadRefusal, IsLoadOf}
use Rattle.job_readings.proofs.ExactReadings.{readers_are_exact}

-- It doesn't load, so that no work of it may be given up.
pub a_load_refusal_is_sure : (words : List (List ℕ)) (files : Files) (job : Job) (r : Refusal) → IsJob words job → HasLoadRefusal files job r
    → DeservesSurely words files (Answer.refused r)
a_load_refusal_is_sure words files job r is_job refused = record {
  deserved = record { job = job; is_job = is_job; is_answer = inl refused };
  within = λ other is_other may.
      let same : other ≡ job = one_job words other job is_other is_job in
      (exact_loaded readers readers_are_exact files job).not_both may.load r (subst (λ (j : Job). IsLoadOf files j may.load) same may.loads) refused;
}
