-- Each reader of jobs has one answer.
use Rattle.lib_cells.proofs.LibraryLaws.{one_reading as one_library, one_library_fault, no_reading_and_fault as no_library_and_fault}
use Rattle.lib_cells.proofs.LibraryLaws.{one_join, one_join_fault, no_join_and_fault}
use Rattle.net_text.proofs.NetlistLaws.{one_reading as one_netlist, one_netlist_fault, no_reading_and_fault as no_netlist_and_fault}
use Rattle.design_defs.proofs.OneDesign.{one_design, one_design_fault, design_or_fault}
use Rattle.script_defs.proofs.ExactReaders.{scripts_load_in_one_way}
use Rattle.job_defs.specs.FileFaults.{text_of}
use Rattle.job_defs.specs.Readers.{AreExact}
use Rattle.job_readings.specs.Readings.{readers, held_by}

-- each reader gives at most one value, has at most one fault, and not both
pub readers_are_exact : AreExact readers
readers_are_exact = record {
  cells = λ text. record { one_value = one_library text; one_fault = one_library_fault text; not_both = no_library_and_fault text };
  joined = λ all more. record { one_value = one_join all more; one_fault = one_join_fault all more; not_both = no_join_and_fault all more };
  modules = λ text. record { one_value = one_netlist text; one_fault = one_netlist_fault text; not_both = no_netlist_and_fault text };
  design = λ modules cells models top. record {
    one_value = one_design modules cells models top;
    one_fault = one_design_fault modules cells models top;
    not_both = design_or_fault modules cells models top;
  };
  intent = λ files design script want. record {
    one_value = scripts_load_in_one_way.one_intent design (held_by files) script (text_of files script) want;
    one_fault = scripts_load_in_one_way.one_fault design (held_by files) script (text_of files script) want;
    not_both = scripts_load_in_one_way.not_both design (held_by files) script (text_of files script) want;
  };
}
