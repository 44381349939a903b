-- What is seen of a run whose report is finished.
use Rattle.std.proofs.Common.{◌≡◌, ℕ, Bool, true, false, ◌⊎◌, inl, inr, List, Option, length, refl, sym, ap, subst, ◌∙◌}
use Rattle.std.specs.Prelude.{IfSome}
use Rattle.std.proofs.Math.Seq.{take-length}
use Rattle.pw_defs.specs.declared.faults.Refusal.{Refusal}
use Rattle.pw_defs.specs.declared.status.Status.{Status}
use Rattle.pw_defs.specs.declared.status.Status.TheVariants.{Clean, Findings, Refused, Outside, Memory}
use Rattle.pw_outer.specs.Counts.{Counts, Rose}
use Rattle.pw_outer.specs.Fetches.{Files}
use Rattle.pw_outer.specs.Puts.{Grew, GrewByFront}
use Rattle.upf_sign.specs.declared.answers.Answer.{Answer}
use Rattle.upf_sign.specs.declared.answers.Answer.TheVariants.{Report, OtherForm, NoLegal}
use Rattle.upf_sign.specs.Faults.{IsFault}
use Rattle.upf_sign.specs.Laws.{HasOneAnswer}
use Rattle.upf_sign.specs.RefusalText.{IsReason, outside, memory, outside_line, memory_line}
use Rattle.upf_sign.specs.Runs.{Deserve, IsUndisturbed, TookLine, status_of, status_for}
use Rattle.upf_sign.specs.Telling.{Says, Delivers, whole, failed, out_of_memory}
use Rattle.upf_sign.specs.Words.{Job, IsJob}
use Rattle.upf_sign.proofs.Deserved.{deserved_once, fault_deserves}
use Rattle.upf_sign.proofs.Fetched.{on_some}

-- what grew by all of the bytes grew by a front of them
pub whole_is_front : (old new : Option (List ℕ)) (bytes : List ℕ) → Grew old new bytes → GrewByFront old new bytes
whole_is_front old new bytes grew = (length bytes, subst (Grew old new) (sym (take-length bytes)) grew)

pub took_front : (old new : Option (List ℕ)) (faults more : ℕ) (line : List ℕ) → TookLine old new faults more line → GrewByFront old new line
took_front old new faults more line (inl grew) = whole_is_front old new line grew
took_front old new faults more line (inr front) = front.0

module _ {E : Type 0} (text : List ℕ) (clean : Bool) (result : Status) (old new : Option (List ℕ)) (faults more : ℕ) (e f : E) (told now : Option (List ℕ)) (m n : ℕ)
    (ends : Delivers text clean result old new faults more (f ≡ e) (λ line status. Says line status result told now m n)) where
  -- the status is one of these, each with what was put
  abbrev Ends : Type 0
  Ends =
      (((result ≡ Clean) ⊎ (result ≡ Findings)) × (result ≡ status_of clean) × Grew old new text × (f ≡ e))
      ⊎ (((result ≡ Outside) × GrewByFront old new text × Rose faults more × TookLine told now m n outside_line)
      ⊎ ((result ≡ Memory) × GrewByFront old new text × ((line : List ℕ) × IsReason line × GrewByFront told now line)))

  by_clean : (b : Bool) → b ≡ clean → result ≡ status_of clean → (result ≡ Clean) ⊎ (result ≡ Findings)
  by_clean true is same = inl (same ∙ ap status_of (sym is))
  by_clean false is same = inr (same ∙ ap status_of (sym is))

  by_end : Delivers text clean result old new faults more (f ≡ e) (λ line status. Says line status result told now m n) → Ends
  by_end (whole is grew same) = inl (by_clean clean refl is, is, grew, same)
  by_end (failed front rose (inl says)) = inr (inl (says.0, front, rose, says.1))
  by_end (failed front rose (inr says)) = inr (inr (says.0, front, (outside_line, outside refl, says.1)))
  by_end (out_of_memory front (inl says)) = inr (inr (says.0, front, (memory_line, memory refl, took_front told now m n memory_line says.1)))
  by_end (out_of_memory front (inr says)) = inr (inr (says.0, front, (memory_line, memory refl, says.1)))

  ended : Ends
  ended = by_end ends

  pub is_memory : result ≡ Memory → (line : List ℕ) × IsReason line × GrewByFront told now line
  is_memory is = by ended
    where
      by : Ends → (line : List ℕ) × IsReason line × GrewByFront told now line
      by (inl (inl x, same, grew, kept)) = (let clash : Clean ≡ Memory = sym x ∙ is in cc)
      by (inl (inr x, same, grew, kept)) = (let clash : Findings ≡ Memory = sym x ∙ is in cc)
      by (inr (inl x)) = (let clash : Outside ≡ Memory = sym x.0 ∙ is in cc)
      by (inr (inr x)) = x.2

  module _ (words : List (List ℕ)) (held : Option Files) (deserved : IfSome held (λ files. Deserve words files (Report text clean))) where
    pub is_answered : HasOneAnswer → (a b : Counts)
        → IfSome held (λ files. (answer : Answer) → Deserve words files answer → IsUndisturbed a b faults more → (result ≡ status_for answer) ⊎ (result ≡ Memory))
    is_answered one a b = on_some held (λ files is d answer other calm. by files d answer other calm ended) deserved
      where
        by : (files : Files) → Deserve words files (Report text clean) → (answer : Answer) → Deserve words files answer → IsUndisturbed a b faults more → Ends → (result ≡ status_for answer) ⊎ (result ≡ Memory)
        by files d answer other calm (inl (x, same, grew, kept)) =
            inl (same ∙ ap status_for (deserved_once one words files (Report text clean) answer d other))
        by files d answer other calm (inr (inl x)) = absurd (calm.1 x.2)
        by files d answer other calm (inr (inr x)) = inr x.0

    -- a job with a report has no fault
    pub is_faultless : HasOneAnswer → (a b : Counts)
        → IfSome held (λ files. (job : Job) (r : Refusal) → IsJob words job → IsFault files job r → IsUndisturbed a b faults more → (result ≡ Refused) ⊎ (result ≡ Memory))
    is_faultless one a b = on_some held (λ files is d job r is_job fault calm. by (fault_deserves one words files job r (Report text clean) is_job fault d)) deserved
      where
        by : (Report text clean ≡ OtherForm) ⊎ (Report text clean ≡ NoLegal) → (result ≡ Refused) ⊎ (result ≡ Memory)
        by (inl is) = cc
        by (inr is) = cc
