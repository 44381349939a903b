-- What is seen of a run that has no report.
use Rattle.std.proofs.Common.{◌≡◌, ℕ, ◌⊎◌, inl, inr, List, Option, Some, None, refl, sym, ap, ◌∙◌}
use Rattle.std.specs.Prelude.{IfSome}
use Rattle.pw_defs.specs.declared.faults.Refusal.{Refusal}
use Rattle.pw_defs.specs.declared.status.Status.{Status}
use Rattle.pw_defs.specs.declared.status.Status.TheVariants.{Refused, Usage, Bound, Outside, Memory}
use Rattle.pw_outer.specs.Counts.{Counts}
use Rattle.pw_outer.specs.Fetches.{Files}
use Rattle.pw_outer.specs.Puts.{GrewByFront}
use Rattle.upf_sign.specs.declared.answers.Answer.{Answer}
use Rattle.upf_sign.specs.declared.answers.Answer.TheVariants.{OtherForm, NoLegal, Bound as BoundAnswer}
use Rattle.upf_sign.specs.declared.planning.Stop.{Stop}
use Rattle.upf_sign.specs.declared.planning.Stop.TheVariants.{Usage as UsageStop, Refused as RefusedStop, Bound as BoundStop, Outside as OutsideStop, Memory as MemoryStop}
use Rattle.upf_sign.specs.Faults.{IsFault}
use Rattle.upf_sign.specs.Laws.{HasOneAnswer}
use Rattle.upf_sign.specs.Planning.{Stops}
use Rattle.upf_sign.specs.RefusalText.{IsReason, refused, usage, bound, outside, memory, refusal_text, usage_line, bound_line, outside_line, memory_line}
use Rattle.upf_sign.specs.Runs.{Deserve, IsUndisturbed, TookLine, status_for}
use Rattle.upf_sign.specs.Telling.{Says, Tells}
use Rattle.upf_sign.specs.Words.{Job, IsJob, IsNoJob}
use Rattle.upf_sign.proofs.Deserved.{deserved_once, fault_deserves}
use Rattle.upf_sign.proofs.Fetched.{held_at}
use Rattle.upf_sign.proofs.Finished.{took_front}

-- the status of each reason
abbrev status_at : Stop → Status
status_at UsageStop = Usage
status_at (RefusedStop r) = Refused
status_at BoundStop = Bound
status_at OutsideStop = Outside
status_at MemoryStop = Memory

-- the line of each reason
abbrev line_at : Stop → List ℕ
line_at UsageStop = usage_line
line_at (RefusedStop r) = refusal_text r
line_at BoundStop = bound_line
line_at OutsideStop = outside_line
line_at MemoryStop = memory_line

reason_at : (stop : Stop) → IsReason (line_at stop)
reason_at UsageStop = usage refl
reason_at (RefusedStop r) = refused r refl
reason_at BoundStop = bound refl
reason_at OutsideStop = outside refl
reason_at MemoryStop = memory refl

module _ (stop : Stop) (result : Status) (told now : Option (List ℕ)) (m n : ℕ) (tells : Tells stop result told now m n) where
  -- the reason stands with its line, or memory ran out
  abbrev Ends : Stop → Type 0
  Ends s = ((result ≡ status_at s) × TookLine told now m n (line_at s)) ⊎ ((result ≡ Memory) × ((line : List ℕ) × IsReason line × GrewByFront told now line))

  by_line : (s : Stop) → Says (line_at s) (status_at s) result told now m n → Ends s
  by_line s (inl x) = inl x
  by_line s (inr x) = inr (x.0, (line_at s, reason_at s, x.1))

  by_stop : (s : Stop) → Tells s result told now m n → Ends s
  by_stop UsageStop says = by_line UsageStop says
  by_stop (RefusedStop r) (inl says) = by_line (RefusedStop r) says
  by_stop (RefusedStop r) (inr (inl says)) = inr (says.0, (memory_line, memory refl, took_front told now m n memory_line says.1))
  by_stop (RefusedStop r) (inr (inr says)) = inr (says.0, (memory_line, memory refl, says.1))
  by_stop BoundStop says = by_line BoundStop says
  by_stop OutsideStop says = by_line OutsideStop says
  by_stop MemoryStop says = by_line MemoryStop says

  ended : Ends stop
  ended = by_stop stop tells

  -- the status is that of the reason, or Memory
  is_status : (result ≡ status_at stop) ⊎ (result ≡ Memory)
  is_status = by ended
    where
      by : Ends stop → (result ≡ status_at stop) ⊎ (result ≡ Memory)
      by (inl x) = inl x.0
      by (inr x) = inr x.0

  pub is_memory : result ≡ Memory → (line : List ℕ) × IsReason line × GrewByFront told now line
  is_memory is = by ended
    where
      by : Ends stop → (line : List ℕ) × IsReason line × GrewByFront told now line
      by (inl x) = (line_at stop, reason_at stop, took_front told now m n (line_at stop) x.1)
      by (inr x) = x.1

  module _ (words : List (List ℕ)) (held : Option Files) (a b : Counts) (stops : Stops words held a b stop) where
    pub is_no_job : IsNoJob words → (result ≡ Usage) ⊎ (result ≡ Memory)
    is_no_job none = by stop stops is_status
      where
        by : (s : Stop) → Stops words held a b s → (result ≡ status_at s) ⊎ (result ≡ Memory) → (result ≡ Usage) ⊎ (result ≡ Memory)
        by UsageStop why is = is
        by (RefusedStop r) why is = absurd (none why.job why.is_job)
        by BoundStop why is = absurd (none why.0.job why.0.is_job)
        by OutsideStop why is = absurd (none why.0.job why.0.is_job)
        by MemoryStop why (inl is) = inr is
        by MemoryStop why (inr is) = inr is

    pub is_faulty : HasOneAnswer → (faults more : ℕ)
        → IfSome held (λ files. (job : Job) (r : Refusal) → IsJob words job → IsFault files job r → IsUndisturbed a b faults more → (result ≡ Refused) ⊎ (result ≡ Memory))
    is_faulty one faults more = over held refl
      where
        by : (files : Files) → held ≡ Some files → (job : Job) (r : Refusal) → IsJob words job → IsFault files job r → IsUndisturbed a b faults more
            → (s : Stop) → Stops words held a b s → (result ≡ status_at s) ⊎ (result ≡ Memory) → (result ≡ Refused) ⊎ (result ≡ Memory)
        by files at job r is_job fault calm UsageStop why is = absurd (why job is_job)
        by files at job r is_job fault calm (RefusedStop q) why is = is
        by files at job r is_job fault calm BoundStop why is = clash (fault_deserves one words files job r BoundAnswer is_job fault (held_at held files _ at why.1))
          where
            clash : (BoundAnswer ≡ OtherForm) ⊎ (BoundAnswer ≡ NoLegal) → (result ≡ Refused) ⊎ (result ≡ Memory)
            clash (inl e) = cc
            clash (inr e) = cc
        by files at job r is_job fault calm OutsideStop why is = absurd (calm.0 why.1)
        by files at job r is_job fault calm MemoryStop why (inl is) = inr is
        by files at job r is_job fault calm MemoryStop why (inr is) = inr is

        over : (h : Option Files) → held ≡ h → IfSome h (λ files. (job : Job) (r : Refusal) → IsJob words job → IsFault files job r → IsUndisturbed a b faults more → (result ≡ Refused) ⊎ (result ≡ Memory))
        over None at = tt
        over (Some files) at = λ job r is_job fault calm. by files at job r is_job fault calm stop stops is_status

    pub is_answered : HasOneAnswer → (faults more : ℕ)
        → IfSome held (λ files. (answer : Answer) → Deserve words files answer → IsUndisturbed a b faults more → (result ≡ status_for answer) ⊎ (result ≡ Memory))
    is_answered one faults more = over held refl
      where
        refusing : (answer : Answer) → (answer ≡ OtherForm) ⊎ (answer ≡ NoLegal) → (result ≡ Refused) ⊎ (result ≡ Memory) → (result ≡ status_for answer) ⊎ (result ≡ Memory)
        refusing answer (inl e) (inl is) = inl (is ∙ ap status_for (sym e))
        refusing answer (inr e) (inl is) = inl (is ∙ ap status_for (sym e))
        refusing answer e (inr is) = inr is

        bounded : (answer : Answer) → answer ≡ BoundAnswer → (result ≡ Bound) ⊎ (result ≡ Memory) → (result ≡ status_for answer) ⊎ (result ≡ Memory)
        bounded answer e (inl is) = inl (is ∙ ap status_for (sym e))
        bounded answer e (inr is) = inr is

        by : (files : Files) → held ≡ Some files → (answer : Answer) → Deserve words files answer → IsUndisturbed a b faults more
            → (s : Stop) → Stops words held a b s → (result ≡ status_at s) ⊎ (result ≡ Memory) → (result ≡ status_for answer) ⊎ (result ≡ Memory)
        by files at answer d calm UsageStop why is = absurd (why d.job d.is_job)
        by files at answer d calm (RefusedStop q) why is = refusing answer (fault_deserves one words files why.job q answer why.is_job (held_at held files _ at why.fault) d) is
        by files at answer d calm BoundStop why is = bounded answer (deserved_once one words files answer BoundAnswer d (held_at held files _ at why.1)) is
        by files at answer d calm OutsideStop why is = absurd (calm.0 why.1)
        by files at answer d calm MemoryStop why (inl is) = inr is
        by files at answer d calm MemoryStop why (inr is) = inr is

        over : (h : Option Files) → held ≡ h → IfSome h (λ files. (answer : Answer) → Deserve words files answer → IsUndisturbed a b faults more → (result ≡ status_for answer) ⊎ (result ≡ Memory))
        over None at = tt
        over (Some files) at = λ answer d calm. by files at answer d calm stop stops is_status
