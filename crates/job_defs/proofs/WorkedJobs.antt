-- Worked jobs: which words are a job, what is answered where a file is absent, and the answer on the two blocks.
use Rattle.std.proofs.Common.{ℕ, false, List, [], ◌∷◌, inl, refl, sym, arith}
use Rattle.std.specs.Prelude.{codes}
use Rattle.pw_defs.specs.declared.faults.Code.TheVariants.{F1}
use Rattle.pw_defs.specs.declared.intent.Want.TheVariants.{Check}
use Rattle.pw_outer.specs.Fetches.{Files}
use Rattle.worked_jobs.specs.Designs.{pair as pair_design}
use Rattle.worked_jobs.specs.Intents.{pair as pair_intent}
use Rattle.worked_jobs.specs.Libraries.{library}
use Rattle.worked_jobs.specs.Netlists.{pair as pair_modules}
use Rattle.worked_jobs.specs.Reports.{pair as pair_report}
use Rattle.worked_jobs.specs.Texts.{cells_text, pair_text, pair_script, pair_report as pair_report_text}
use Rattle.signoff_defs.proofs.WorkedReport.{the_pair_has_its_report, the_report_has_its_text}
use Rattle.signoff_defs.proofs.WorkedSupplies.{some_state_of_the_pair_is_legal}
use Rattle.job_defs.specs.Answers.{Answer, Deserve, IsAnswer}
use Rattle.job_defs.specs.FileFaults.{IsFileFault, IsHeld, refusal}
use Rattle.job_defs.specs.Jobs.{Job, JobOption, IsJob, IsNoJob}
use Rattle.job_defs.specs.Loading.{no_cells}
use Rattle.job_defs.specs.Readers.{Readers}

-- ---- words

abbrev pair_words : List (List ℕ)
pair_words = codes "flat" ∷ codes "-lib" ∷ codes "cells.lib" ∷ codes "-net" ∷ codes "ab.v" ∷ codes "-upf" ∷ codes "base.upf" ∷ codes "-top" ∷ codes "top" ∷ []

abbrev pair_job : Job
pair_job = record {
  options = JobOption.library (codes "cells.lib") ∷ JobOption.netlist (codes "ab.v") ∷ JobOption.script (codes "base.upf") ∷ JobOption.top (codes "top") ∷ [];
  script = codes "base.upf";
  top = codes "top";
}

pub the_words_are_a_job : IsJob pair_words pair_job
the_words_are_a_job = record {
  spelled = refl;
  values = ((λ e. cc), ((λ e. cc), ((λ e. cc), ((λ e. cc), tt))));
  some_library = λ e. cc;
  some_netlist = λ e. cc;
  one_script = refl;
  one_top = refl;
}

-- options come in any order, and files of one kind more than once
pub options_come_in_any_order : IsJob
    (codes "flat" ∷ codes "-top" ∷ codes "t" ∷ codes "-net" ∷ codes "a" ∷ codes "-upf" ∷ codes "u" ∷ codes "-net" ∷ codes "b" ∷ codes "-lib" ∷ codes "l" ∷ [])
    (record {
      options = JobOption.top (codes "t") ∷ JobOption.netlist (codes "a") ∷ JobOption.script (codes "u") ∷ JobOption.netlist
          (codes "b") ∷ JobOption.library (codes "l") ∷ [];
      script = codes "u";
      top = codes "t";
    })
options_come_in_any_order = record {
  spelled = refl;
  values = ((λ e. cc), ((λ e. cc), ((λ e. cc), ((λ e. cc), ((λ e. cc), tt)))));
  some_library = λ e. cc;
  some_netlist = λ e. cc;
  one_script = refl;
  one_top = refl;
}

pub no_words_are_no_job : IsNoJob []
no_words_are_no_job job is = let spelled = is.spelled in cc

-- ---- files

abbrev pair_files : Files
pair_files = (codes "cells.lib", cells_text) ∷ (codes "ab.v", pair_text) ∷ (codes "base.upf", pair_script) ∷ []

pub an_absent_file_is_the_fault : (readers : Readers) → IsAnswer readers [] pair_job (Answer.refused (refusal F1 (codes "cells.lib") 0 (codes "cells.lib")))
an_absent_file_is_the_fault readers = inl (inl (inl (IsFileFault.absent refl refl)))

cells_held : IsHeld pair_files (codes "cells.lib") cells_text
cells_held = record { there = refl; short = omega arith }

modules_held : IsHeld pair_files (codes "ab.v") pair_text
modules_held = record { there = refl; short = omega arith }

script_held : IsHeld pair_files (codes "base.upf") pair_script
script_held = record { there = refl; short = omega arith }

-- ---- the answer

-- the readers give of the texts of the two blocks what these mean
pub record ReadPair (readers : Readers) : Type 0 where
  pub cells : (readers.cells cells_text).gives library
  pub joined : (readers.joined no_cells library).gives library
  pub modules : (readers.modules pair_text).gives pair_modules
  pub design : (readers.design pair_modules library [] (codes "top")).gives pair_design
  pub intent : (readers.intent pair_files pair_design (codes "base.upf") Check).gives pair_intent

pub the_pair_has_its_answer : (readers : Readers) → ReadPair readers
    → Deserve readers pair_words pair_files (Answer.output (record { text = pair_report_text; clean = false }))
the_pair_has_its_answer readers read = record {
  job = pair_job;
  is_job = the_words_are_a_job;
  is_answer = (
    record { design = pair_design; intent = pair_intent },
    (
      cells_text ∷ pair_text ∷ pair_script ∷ [],
      (
        cells_text,
        cells_held,
        (
          pair_text ∷ pair_script ∷ [],
          (pair_text, modules_held, (pair_script ∷ [], (pair_script, script_held, ([], refl, refl)), refl)),
          refl,
        ),
      ),
      (
        library,
        (library, (library, read.cells, read.joined), refl),
        (
          record { file = codes "ab.v"; modules = pair_modules } ∷ [],
          (record { file = codes "ab.v"; modules = pair_modules }, (pair_modules, read.modules, refl), ([], refl, refl)),
          (pair_design, read.design, (pair_intent, read.intent, refl)),
        ),
      ),
    ),
    (
      tt,
      (λ r fault. some_state_of_the_pair_is_legal fault.none),
      record { report = pair_report; is_report = the_pair_has_its_report; text_is = sym the_report_has_its_text; clean_is = refl },
    ),
  );
}
