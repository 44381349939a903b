-- From the files of a job to its design with its intent, or to its first fault, step by step.
use Rattle.std.specs.Prelude.{ℕ, List, []}
use Rattle.pw_defs.specs.declared.cells.Cells.{Cells}
use Rattle.pw_defs.specs.declared.design.Design.{Design}
use Rattle.pw_defs.specs.declared.faults.Refusal.{Refusal}
use Rattle.pw_defs.specs.declared.intent.Intent.{Intent}
use Rattle.pw_defs.specs.declared.intent.Want.TheVariants.{Check}
use Rattle.pw_outer.specs.Fetches.{Files}
use Rattle.step_defs.specs.Steps.{Step, and_then, with_value, with_fault, for_each, in_turn}
use Rattle.job_defs.specs.Jobs.{Job, libraries, netlists, files_of}
use Rattle.job_defs.specs.Readers.{Readers}
use Rattle.job_defs.specs.FileFaults.{ReadNetlist, fetched, text_of, library_refusal, netlist_refusal, refusal_of_design, modules_of}

-- a design with its intent
pub record Loaded : Type 0 where
  pub design : Design
  pub intent : Intent

abbrev pub no_cells : Cells
no_cells = record { cells = [] }

-- the files are there and not too long, in order of the words
abbrev pub all_fetched : Files → Job → Step (List (List ℕ)) Refusal
all_fetched files job = for_each (fetched files) (files_of job)

-- the cells of the libraries so far with those of one more: what is wrong within its file comes first
abbrev pub one_library_more : Readers → Files → Cells → List ℕ → Step Cells Refusal
one_library_more readers files all name =
    with_fault (library_refusal name) (and_then (readers.cells (text_of files name)) (λ more. readers.joined all more))

-- the cells of all libraries, in order of the words
abbrev pub all_cells : Readers → Files → Job → Step Cells Refusal
all_cells readers files job = in_turn (one_library_more readers files) no_cells (libraries job)

-- the modules of a netlist
abbrev pub netlist_read : Readers → Files → List ℕ → Step ReadNetlist Refusal
netlist_read readers files name =
    with_value (λ modules. record { file = name; modules = modules }) (with_fault (netlist_refusal name) (readers.modules (text_of files name)))

-- the modules of all netlists, in order of the words
abbrev pub all_netlists : Readers → Files → Job → Step (List ReadNetlist) Refusal
all_netlists readers files job = for_each (netlist_read readers files) (netlists job)

-- the design under the top
abbrev pub elaborated : Readers → Job → Cells → List ReadNetlist → Step Design Refusal
elaborated readers job cells read = with_fault (refusal_of_design read) (readers.design (modules_of read) cells [] job.top)

-- the intent of the script over a design
abbrev pub scripted : Readers → Files → Job → Design → Step Loaded Refusal
scripted readers files job design = with_value (λ intent. record { design = design; intent = intent }) (readers.intent files design job.script Check)

-- The files of a job mean a design with its intent, or have a first fault: the files themselves come first, then the
-- libraries, the netlists, the design and the script.
abbrev pub loaded : Readers → Files → Job → Step Loaded Refusal
loaded readers files job =
    and_then (all_fetched files job) (λ _. and_then (all_cells readers files job) (λ cells. and_then (all_netlists readers files job) (λ read.
    and_then (elaborated readers job cells read) (λ design. scripted readers files job design))))
