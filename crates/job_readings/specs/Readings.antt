-- The readers of jobs: what the texts of libraries, netlists and scripts give, and what a job deserves by them.
use Rattle.std.specs.Prelude.{ℕ, List, Option}
use Rattle.pw_defs.specs.declared.faults.Refusal.{Refusal}
use Rattle.pw_outer.specs.Fetches.{Files, file_named}
use Rattle.lib_cells.specs.Joins.{JoinsTo, HasJoinFault}
use Rattle.lib_cells.specs.LibraryFaults.{ReadsAsCells, HasLibraryFault}
use Rattle.net_text.specs.NetlistFaults.{ReadsAsModules, HasNetlistFault}
use Rattle.design_defs.specs.DesignFaults.{IsDesignOf, HasDesignFault}
use Rattle.script_defs.specs.Loads.{LoadsTo, HasLoadFault}
use Rattle.job_defs.specs.Answers.{Answer, Deserve, IsAnswer, HasSureAnswer, MayBeGivenUp}
use Rattle.job_defs.specs.FileFaults.{text_of}
use Rattle.job_defs.specs.Jobs.{Job}
use Rattle.job_defs.specs.Loading.{Loaded, loaded}
use Rattle.job_defs.specs.Readers.{Readers}

-- the texts of a shelf by their names, as a script loads them
abbrev pub held_by : Files → List ℕ → Option (List ℕ)
held_by files name = file_named name files

-- The readers of jobs: a text is a library or a netlist by its grammar, modules and cells make a design, and a script is
-- run over that design from its own text and those that it loads.
abbrev pub readers : Readers
readers = record {
  cells = λ text. record { gives = ReadsAsCells text; faults = HasLibraryFault text };
  joined = λ all more. record { gives = JoinsTo all more; faults = HasJoinFault all more };
  modules = λ text. record { gives = ReadsAsModules text; faults = HasNetlistFault text };
  design = λ modules cells models top. record {
    gives = IsDesignOf modules cells models top;
    faults = HasDesignFault modules cells models top;
  };
  intent = λ files design script want. record {
    gives = LoadsTo design (held_by files) script (text_of files script) want;
    faults = HasLoadFault design (held_by files) script (text_of files script) want;
  };
}

-- the files of the job mean this design with its intent
abbrev pub IsLoadOf : Files → Job → Loaded → Type 0
IsLoadOf files job load = (loaded readers files job).gives load

-- the files of the job mean no design with an intent, and this is their first fault
abbrev pub HasLoadRefusal : Files → Job → Refusal → Type 0
HasLoadRefusal files job refusal = (loaded readers files job).faults refusal

-- this is answered on the job: the text of its report, or its first fault
abbrev pub IsAnswerTo : Files → Job → Answer → Type 0
IsAnswerTo files job answer = IsAnswer readers files job answer

-- the words are a job, and this is answered on it
abbrev pub Deserves : List (List ℕ) → Files → Answer → Type 0
Deserves words files answer = Deserve readers words files answer

-- the job loads, and its work has more than 1,048,576 parts, so that it may be given up
abbrev pub MayGiveUp : Files → Job → Type 0
MayGiveUp files job = MayBeGivenUp readers files job

-- the words deserve this, and no job that they are may be given up
abbrev pub DeservesSurely : List (List ℕ) → Files → Answer → Type 0
DeservesSurely words files answer = HasSureAnswer readers words files answer
