-- The words deserve one answer over the files that a shelf holds, or have a fault.
use Rattle.std.proofs.Common.{◌≡◌, ℕ, ◌⊎◌, inl, inr, List, [], ◌∷◌, refl, sym, ap, subst, ◌∙◌}
use Rattle.std.specs.Prelude.{slice_get, codes}
use Rattle.std.proofs.lemmas.Option.{none-some, same_Some}
use Rattle.pw_defs.specs.declared.faults.Refusal.{Refusal}
use Rattle.pw_outer.specs.Fetches.{Files}
use Rattle.upf_sign.specs.declared.answers.Answer.{Answer}
use Rattle.upf_sign.specs.declared.answers.Answer.TheVariants.{OtherForm, NoLegal}
use Rattle.upf_sign.specs.Faults.{IsAnsweredBy, IsFault, IsHeld, file_faults, of_file, of_form, of_states}
use Rattle.upf_sign.specs.Laws.{HasOneAnswer}
use Rattle.upf_sign.specs.Runs.{Deserve}
use Rattle.upf_sign.specs.Words.{Job, IsJob}
use Rattle.upf_sign.proofs.Ends.{on_same}
use Rattle.upf_sign.proofs.Fetched.{held_is_fine}

job_with : {a b c d e f g h : List ℕ} → a ≡ b → c ≡ d → e ≡ f → g ≡ h
    → (let j : Job = record { library = a; netlist = c; script = e; top = g } in j) ≡ record { library = b; netlist = d; script = f; top = h }
job_with {a} {b} {c} {d} {e} {f} {g} {h} p q r s = cc

-- words are one job
pub one_job : (words : List (List ℕ)) (j k : Job) → IsJob words j → IsJob words k → j ≡ k
one_job words j k p q =
    let same : codes "flat" ∷ codes "-lib" ∷ j.library ∷ codes "-net" ∷ j.netlist ∷ codes "-upf" ∷ j.script ∷ codes "-top" ∷ j.top ∷ []
    ≡ codes "flat" ∷ codes "-lib" ∷ k.library ∷ codes "-net" ∷ k.netlist ∷ codes "-upf" ∷ k.script ∷ codes "-top" ∷ k.top ∷ [] = sym p.spelled ∙ q.spelled in
    let library : j.library ≡ k.library = cc in
    let netlist : j.netlist ≡ k.netlist = cc in
    let script : j.script ≡ k.script = cc in
    let top : j.top ≡ k.top = cc in
    job_with library netlist script top

same_text : (files : Files) (name x y : List ℕ) → IsHeld files name x → IsHeld files name y → x ≡ y
same_text files name x y p q = same_Some x y (sym p.0 ∙ q.0)

answered_once : HasOneAnswer → (files : Files) (job : Job) (a b : Answer) → IsAnsweredBy files job a → IsAnsweredBy files job b → a ≡ b
answered_once one files job a b p q =
    one p.library p.netlist p.script job.top a b p.is_answer
    (on_same b (same_text files job.library q.library p.library q.library_held p.library_held) (same_text files job.netlist q.netlist p.netlist q.netlist_held p.netlist_held)
    (same_text files job.script q.script p.script q.script_held p.script_held) refl q.is_answer)

-- there is one answer that the words deserve
pub deserved_once : HasOneAnswer → (words : List (List ℕ)) (files : Files) (a b : Answer) → Deserve words files a → Deserve words files b → a ≡ b
deserved_once one words files a b p q =
    answered_once one files p.job a b p.answered (subst (λ (j : Job). IsAnsweredBy files j b) (one_job words q.job p.job q.is_job p.is_job) q.answered)

-- where the three files are there, nothing is wrong with them
no_fault : (files : Files) (job : Job) (a : Answer) → IsAnsweredBy files job a → file_faults files job ≡ []
no_fault files job a p =
    let first = held_is_fine files job.library p.library p.library_held in
    let second = held_is_fine files job.netlist p.netlist p.netlist_held in
    let third = held_is_fine files job.script p.script p.script_held in
    rw (first, second, third) refl

fault_answers : HasOneAnswer → (files : Files) (job : Job) (r : Refusal) (a : Answer) → IsFault files job r → IsAnsweredBy files job a → (a ≡ OtherForm) ⊎ (a ≡ NoLegal)
fault_answers one files job r a (of_file is) p = absurd (none-some r (sym (ap (λ (rs : List Refusal). slice_get rs 0) (no_fault files job a p)) ∙ is))
fault_answers one files job r a (of_form by is) p = inl (answered_once one files job a OtherForm p by)
fault_answers one files job r a (of_states by is) p = inr (answered_once one files job a NoLegal p by)

-- a job with a fault deserves a refusal
pub fault_deserves : HasOneAnswer → (words : List (List ℕ)) (files : Files) (job : Job) (r : Refusal) (a : Answer) → IsJob words job → IsFault files job r → Deserve words files a → (a ≡ OtherForm) ⊎ (a ≡ NoLegal)
fault_deserves one words files job r a is_job fault p =
    fault_answers one files job r a fault (subst (λ (j : Job). IsAnsweredBy files j a) (one_job words p.job job p.is_job is_job) p.answered)
