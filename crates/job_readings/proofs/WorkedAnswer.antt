-- What the job of the two blocks deserves over its shelf, and where its script is absent.
use Rattle.std.proofs.Common.{false, [], ◌∷◌, None, refl, arith}
use Rattle.std.specs.Prelude.{codes}
use Rattle.pw_defs.specs.declared.faults.Code.TheVariants.{F1}
use Rattle.pw_defs.specs.declared.intent.SupplySet.{SupplySet}
use Rattle.worked_jobs.specs.Intents.{switchable, steady}
use Rattle.worked_jobs.specs.Libraries.{buffer, isolation, shifter, library}
use Rattle.worked_jobs.specs.Texts.{cells_text, pair_text, pair_report}
use Rattle.lib_cells.specs.Joins.{JoinsTo}
use Rattle.lib_cells.proofs.Apart.{none_otherwise}
use Rattle.lib_cells.proofs.WorkedJobs.{the_library_is_read}
use Rattle.lib_cells.proofs.WorkedLibraries.{computing}
use Rattle.net_text.proofs.WorkedJobs.{the_pair_is_read}
use Rattle.design_defs.proofs.WorkedFaultless.{pair_has_its_design}
use Rattle.script_defs.proofs.WorkedLoads.{base_script_loads}
use Rattle.signoff_defs.proofs.WorkedSupplies.{the_pair_has_sound_supplies}
use Rattle.job_defs.specs.Answers.{Answer}
use Rattle.job_defs.specs.FileFaults.{IsHeld, refusal}
use Rattle.job_defs.specs.Loading.{no_cells}
use Rattle.job_defs.proofs.WorkedJobs.{ReadPair, the_words_are_a_job, the_pair_has_its_answer}
use Rattle.job_readings.specs.Readings.{readers, held_by, Deserves, DeservesSurely}
use Rattle.job_readings.specs.Worked.{pair_words, pair_job, pair_files, unscripted_files}
use Rattle.job_readings.proofs.AbsentFiles.{an_absent_file_is_refused}
use Rattle.job_readings.proofs.SureRefusals.{a_load_refusal_is_sure}
use Rattle.job_readings.proofs.PairMembers.{the_pair_has_its_domains}

-- one library alone gives its cells
pub the_library_stands_alone : JoinsTo no_cells library library
unfolding computing
the_library_stands_alone = record { alike = none_otherwise (buffer ∷ isolation ∷ shifter ∷ []) refl; value = refl }

-- a set that stands for nothing
abbrev no_set : SupplySet
no_set = record { power = 0; ground = None }

-- the readers give of the texts of the two blocks their cells, modules, design and intent
the_pair_is_given : ReadPair readers
the_pair_is_given = record {
  cells = the_library_is_read;
  joined = the_library_stands_alone;
  modules = the_pair_is_read;
  design = pair_has_its_design;
  intent = base_script_loads (held_by pair_files) the_pair_has_sound_supplies.lists (the_pair_has_its_domains steady switchable steady)
      (the_pair_has_its_domains no_set no_set no_set);
}

-- The job of the two blocks deserves the text of their report, which isn't clean.
pub the_pair_deserves_its_report : Deserves pair_words pair_files (Answer.output (record { text = pair_report; clean = false }))
the_pair_deserves_its_report = the_pair_has_its_answer readers the_pair_is_given

cells_held : IsHeld unscripted_files (codes "cells.lib") cells_text
cells_held = record { there = refl; short = omega arith }

modules_held : IsHeld unscripted_files (codes "ab.v") pair_text
modules_held = record { there = refl; short = omega arith }

-- Where its script is absent, it deserves the refusal F1 at line 0 of the script, and surely so.
pub the_absent_script_is_refused : DeservesSurely pair_words unscripted_files (Answer.refused (refusal F1 (codes "base.upf") 0 (codes "base.upf")))
the_absent_script_is_refused = a_load_refusal_is_sure pair_words unscripted_files pair_job (refusal F1 (codes "base.upf") 0 (codes "base.upf"))
    the_words_are_a_job
    (an_absent_file_is_refused unscripted_files pair_job (codes "cells.lib" ∷ codes "ab.v" ∷ []) (codes "base.upf") [] refl
    ((cells_text, cells_held), ((pair_text, modules_held), tt)) refl)
