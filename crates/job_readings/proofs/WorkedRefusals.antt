-- What a job deserves where one of its files has a fault: the netlist, what the netlist makes, or the script.
use Rattle.std.proofs.Common.{ℕ, ◌≤◌, List, [], ◌∷◌, length, inl, inr, refl, arith}
use Rattle.std.specs.Prelude.{codes}
use Rattle.pw_defs.specs.declared.faults.Code.TheVariants.{N1, N8, T3}
use Rattle.pw_defs.specs.declared.faults.DesignFault.TheVariants.{N8 as FedTwice}
use Rattle.pw_defs.specs.declared.faults.NetFault.TheVariants.{N1 as NetlistSyntax}
use Rattle.pw_defs.specs.declared.faults.TclFault.TheVariants.{T3 as OpenBracket}
use Rattle.pw_outer.specs.declared.shelves.TheConstants.{LONGEST_FILE}
use Rattle.worked_jobs.specs.Designs.{pair as pair_design}
use Rattle.worked_jobs.specs.Libraries.{library}
use Rattle.worked_jobs.specs.Netlists.{pair as pair_modules, twice}
use Rattle.worked_jobs.specs.Texts.{cells_text, pair_text, pair_script, cut_text, twice_text}
use Rattle.lib_cells.proofs.WorkedJobs.{the_library_is_read}
use Rattle.net_text.proofs.WorkedJobs.{the_pair_is_read, a_wire_that_is_fed_twice_is_read, the_cut_netlist_ends_too_soon}
use Rattle.tcl_words.proofs.WorkedScripts.{bracket_in_a_word}
use Rattle.design_defs.proofs.WorkedFaultless.{pair_has_its_design}
use Rattle.design_defs.proofs.WorkedTwice.{second_feeder_is_found}
use Rattle.script_defs.specs.Loads.{HasFaultBy}
use Rattle.job_defs.specs.Answers.{Answer}
use Rattle.job_defs.specs.FileFaults.{refusal}
use Rattle.job_defs.specs.Loading.{all_cells, all_fetched}
use Rattle.job_readings.specs.Readings.{readers, DeservesSurely}
use Rattle.job_readings.specs.Worked.{files_with, pair_job, pair_words}
use Rattle.job_defs.proofs.WorkedJobs.{the_words_are_a_job}
use Rattle.job_readings.proofs.SureRefusals.{a_load_refusal_is_sure}
use Rattle.job_readings.proofs.WorkedAnswer.{the_library_stands_alone}

-- the three files are there
all_there : (netlist script : List ℕ) → length netlist ≤ LONGEST_FILE → length script ≤ LONGEST_FILE
    → (all_fetched (files_with netlist script) pair_job).gives (cells_text ∷ netlist ∷ script ∷ [])
all_there netlist script short_netlist short_script = (
  cells_text,
  record { there = refl; short = omega arith },
  (
    netlist ∷ script ∷ [],
    (netlist, record { there = refl; short = short_netlist }, (script ∷ [], (script, record { there = refl; short = short_script }, ([], refl, refl)), refl)),
    refl,
  ),
)

-- the library is read as its cells
the_cells : (netlist script : List ℕ) → (all_cells readers (files_with netlist script) pair_job).gives library
the_cells netlist script = (library, (library, the_library_is_read, the_library_stands_alone), refl)

-- a netlist that ends in an instance: N1 at the line of its end
pub the_cut_netlist_is_refused : DeservesSurely pair_words (files_with cut_text pair_script) (Answer.refused (refusal N1 (codes "ab.v") 2 (codes "-")))
the_cut_netlist_is_refused = a_load_refusal_is_sure _ _ pair_job _ the_words_are_a_job (inr (
  _,
  all_there cut_text pair_script (omega arith) (omega arith),
  inr (library, the_cells cut_text pair_script, inl (inl (inl (NetlistSyntax _, the_cut_netlist_ends_too_soon, refl)))),
))

-- a wire that is fed twice is no fault of the text, but of the design: N8 in the file of its module, at the line of the second feeder
pub the_wire_that_is_fed_twice_is_refused :
    DeservesSurely pair_words (files_with twice_text pair_script) (Answer.refused (refusal N8 (codes "ab.v") 3 (codes "n")))
the_wire_that_is_fed_twice_is_refused = a_load_refusal_is_sure _ _ pair_job _ the_words_are_a_job (inr (
  _,
  all_there twice_text pair_script (omega arith) (omega arith),
  inr (
    library,
    the_cells twice_text pair_script,
    inr (
      record { file = codes "ab.v"; modules = twice } ∷ [],
      (record { file = codes "ab.v"; modules = twice }, (twice, a_wire_that_is_fed_twice_is_read, refl), ([], refl, refl)),
      inl (FedTwice _, second_feeder_is_found, refl),
    ),
  ),
))

-- a script with a bracket in a word: T3 at the line of the bracket
pub the_bracket_in_the_script_is_refused :
    DeservesSurely pair_words (files_with pair_text (codes "create_supply_net [x]")) (Answer.refused (refusal T3 (codes "base.upf") 1 (codes "-")))
the_bracket_in_the_script_is_refused = a_load_refusal_is_sure _ _ pair_job _ the_words_are_a_job (inr (
  _,
  all_there pair_text (codes "create_supply_net [x]") (omega arith) (omega arith),
  inr (
    library,
    the_cells pair_text (codes "create_supply_net [x]"),
    inr (
      record { file = codes "ab.v"; modules = pair_modules } ∷ [],
      (record { file = codes "ab.v"; modules = pair_modules }, (pair_modules, the_pair_is_read, refl), ([], refl, refl)),
      inr (pair_design, pair_has_its_design, inl (HasFaultBy.unreadable (OpenBracket _) bracket_in_a_word refl)),
    ),
  ),
))
