-- A job has one answer.
use Rattle.std.proofs.Common.{◌≡◌, ℕ, Bool, List, [], length, sym, ap, subst, ◌∙◌, arith}
use Rattle.std.proofs.lemmas.Option.{none-some, same_Some}
use Rattle.pw_defs.specs.declared.design.Design.{Design}
use Rattle.pw_defs.specs.declared.cells.Cells.{Cells}
use Rattle.pw_defs.specs.declared.faults.Refusal.{Refusal}
use Rattle.pw_defs.specs.declared.intent.Want.TheVariants.{Check}
use Rattle.pw_defs.specs.declared.netlist.Module.{Module}
use Rattle.pw_defs.specs.declared.intent.Intent.{Intent}
use Rattle.pw_defs.specs.declared.report.Report.{Report}
use Rattle.pw_outer.specs.Fetches.{Files}
use Rattle.signoff_defs.specs.ReportText.{report_text}
use Rattle.signoff_defs.proofs.OneReport.{one_report}
use Rattle.step_defs.specs.Steps.{and_then, with_fault, refusing, giving}
use Rattle.step_defs.specs.Exact.{IsExact}
use Rattle.step_defs.proofs.ExactSteps.{exact_and_then, exact_with_value, exact_with_fault, exact_for_each, exact_in_turn, exact_refusing, exact_giving}
use Rattle.job_defs.specs.Answers.{Output, IsOutputOn, IsLegalFault, Answer, IsAnswer, judged, answered, has_none}
use Rattle.job_defs.specs.FileFaults.{ReadNetlist, IsFileFault, IsHeld, fetched, text_of, library_refusal, netlist_refusal, refusal_of_design, modules_of}
use Rattle.job_defs.specs.Jobs.{Job, files_of, libraries, netlists}
use Rattle.job_defs.specs.Laws.{IsSoundLoad, LoadSound, HasOneAnswer}
use Rattle.job_defs.specs.Loading.{Loaded, all_fetched, one_library_more, all_cells, netlist_read, all_netlists, elaborated, scripted, loaded, no_cells}
use Rattle.job_defs.specs.Readers.{Readers, AreExact}
use Rattle.job_defs.proofs.OneJob.{one_job}

-- ---- files

held_once : (files : Files) (name s t : List ℕ) → IsHeld files name s → IsHeld files name t → s ≡ t
held_once files name s t p q = same_Some s t (sym p.there ∙ q.there)

fault_once : (files : Files) (name : List ℕ) (r s : Refusal) → IsFileFault files name r → IsFileFault files name s → r ≡ s
fault_once files name r s (IsFileFault.absent none is) (IsFileFault.absent none' is') = is ∙ sym is'
fault_once files name r s (IsFileFault.absent none is) (IsFileFault.too_long text there long is') = absurd (none-some text (sym none ∙ there))
fault_once files name r s (IsFileFault.too_long text there long is) (IsFileFault.absent none is') = absurd (none-some text (sym none ∙ there))
fault_once files name r s (IsFileFault.too_long text there long is) (IsFileFault.too_long text' there' long' is') = is ∙ sym is'

held_or_fault : (files : Files) (name text : List ℕ) (r : Refusal) → IsHeld files name text → IsFileFault files name r → ⊥
held_or_fault files name text r held (IsFileFault.absent none is) = none-some text (sym none ∙ held.there)
held_or_fault files name text r held (IsFileFault.too_long other there long is) =
    let same : text ≡ other = same_Some text other (sym held.there ∙ there) in
    let sizes : length text ≡ length other = ap length same in
    omega (arith, held.short, long, sizes)

pub exact_fetched : (files : Files) (name : List ℕ) → IsExact (fetched files name)
exact_fetched files name = record { one_value = held_once files name; one_fault = fault_once files name; not_both = held_or_fault files name }

-- ---- loading

exact_library : (readers : Readers) → AreExact readers → (files : Files) (all : Cells) (name : List ℕ) → IsExact (one_library_more readers files all name)
exact_library readers one files all name = exact_with_fault (library_refusal name)
    (and_then (readers.cells (text_of files name)) (λ more. readers.joined all more))
    (exact_and_then (readers.cells (text_of files name)) (λ more. readers.joined all more) (one.cells (text_of files name)) (λ more _. one.joined all more))

exact_netlist : (readers : Readers) → AreExact readers → (files : Files) (name : List ℕ) → IsExact (netlist_read readers files name)
exact_netlist readers one files name =
    exact_with_value (λ (modules : List Module). let n : ReadNetlist = record { file = name; modules = modules } in n)
    (with_fault (netlist_refusal name) (readers.modules (text_of files name)))
    (exact_with_fault (netlist_refusal name) (readers.modules (text_of files name)) (one.modules (text_of files name)))

exact_elaborated : (readers : Readers) → AreExact readers → (job : Job) (cells : Cells) (read : List ReadNetlist) → IsExact (elaborated readers job cells read)
exact_elaborated readers one job cells read = exact_with_fault (refusal_of_design read) (readers.design (modules_of read) cells [] job.top)
    (one.design (modules_of read) cells [] job.top)

exact_scripted : (readers : Readers) → AreExact readers → (files : Files) (job : Job) (design : Design) → IsExact (scripted readers files job design)
exact_scripted readers one files job design =
    exact_with_value (λ (intent : Intent). let l : Loaded = record { design = design; intent = intent } in l)
    (readers.intent files design job.script Check) (one.intent files design job.script Check)

pub exact_loaded : (readers : Readers) → AreExact readers → (files : Files) (job : Job) → IsExact (loaded readers files job)
exact_loaded readers one files job =
    exact_and_then (all_fetched files job) _ (exact_for_each (fetched files) (exact_fetched files) (files_of job)) (λ _ _.
    exact_and_then (all_cells readers files job) _
    (exact_in_turn (one_library_more readers files) (exact_library readers one files) no_cells (libraries job)) (λ cells _.
    exact_and_then (all_netlists readers files job) _ (exact_for_each (netlist_read readers files) (exact_netlist readers one files) (netlists job)) (λ read _.
    exact_and_then (elaborated readers job cells read) _ (exact_elaborated readers one job cells read)
    (λ design _. exact_scripted readers one files job design))))

-- ---- judging

output_with : {t u : List ℕ} {c e : Bool} → t ≡ u → c ≡ e → (let o : Output = record { text = t; clean = c } in o) ≡ record { text = u; clean = e }
output_with {t} {u} {c} {e} p q = cc

exact_judged : (job : Job) (l : Loaded) → IsSoundLoad l → IsExact (judged job l)
exact_judged job l sound =
    exact_and_then (refusing (IsLegalFault job l)) (λ _. giving (IsOutputOn l)) (exact_refusing (IsLegalFault job l) (λ r s p q. p.fault ∙ sym q.fault))
    (λ _ _. exact_giving (IsOutputOn l) once)
  where
    once : (a b : Output) → IsOutputOn l a → IsOutputOn l b → a ≡ b
    once a b p q =
        let report : p.report ≡ q.report = one_report l.design l.intent sound.design sound.intent sound.check p.report q.report p.is_report q.is_report in
        output_with (p.text_is ∙ ap report_text report ∙ sym q.text_is) (p.clean_is ∙ ap (λ (r : Report). has_none r.findings) report ∙ sym q.clean_is)

exact_answered : (readers : Readers) → AreExact readers → LoadSound readers → (files : Files) (job : Job) → IsExact (answered readers files job)
exact_answered readers one sound files job =
    exact_and_then (loaded readers files job) (judged job) (exact_loaded readers one files job)
    (λ l given. exact_judged job l (sound files job l given))

answer_once : (readers : Readers) → AreExact readers → LoadSound readers → (files : Files) (job : Job) (a b : Answer) → IsAnswer readers files job a
    → IsAnswer readers files job b → a ≡ b
answer_once readers one sound files job (Answer.output x) (Answer.output y) p q = ap Answer.output
    ((exact_answered readers one sound files job).one_value x y p q)
answer_once readers one sound files job (Answer.output x) (Answer.refused r) p q = absurd ((exact_answered readers one sound files job).not_both x r p q)
answer_once readers one sound files job (Answer.refused r) (Answer.output y) p q = absurd ((exact_answered readers one sound files job).not_both y r q p)
answer_once readers one sound files job (Answer.refused r) (Answer.refused s) p q = ap Answer.refused
    ((exact_answered readers one sound files job).one_fault r s p q)

-- words deserve one answer over the files of a shelf
pub one_answer : HasOneAnswer
one_answer readers one sound words files a b p q =
    let job : p.job ≡ q.job = one_job words p.job q.job p.is_job q.is_job in
    answer_once readers one sound files q.job a b (subst (λ (j : Job). IsAnswer readers files j a) job p.is_answer) q.is_answer
