-- The job of the two blocks: its words, and the shelf that holds its files.
use Rattle.std.specs.Prelude.{ℕ, List, [], ◌∷◌, codes}
use Rattle.pw_outer.specs.Fetches.{Files}
use Rattle.worked_jobs.specs.Texts.{cells_text, pair_text, pair_script}
use Rattle.job_defs.specs.Jobs.{Job, JobOption}

-- the words of the job
abbrev pub pair_words : List (List ℕ)
pair_words =
    codes "flat" ∷ codes "-lib" ∷ codes "cells.lib" ∷ codes "-net" ∷ codes "ab.v" ∷ codes "-upf" ∷ codes "base.upf" ∷ codes "-top" ∷ codes "top" ∷ []

-- the job that they are
abbrev pub pair_job : Job
pair_job = record {
  options =
      JobOption.library (codes "cells.lib") ∷ JobOption.netlist (codes "ab.v") ∷ JobOption.script (codes "base.upf") ∷ JobOption.top (codes "top") ∷ [];
  script = codes "base.upf";
  top = codes "top";
}

-- the shelf with the library, a netlist and a script
abbrev pub files_with : List ℕ → List ℕ → Files
files_with netlist script = (codes "cells.lib", cells_text) ∷ (codes "ab.v", netlist) ∷ (codes "base.upf", script) ∷ []

-- the shelf with the netlist of the two blocks and their script
abbrev pub pair_files : Files
pair_files = files_with pair_text pair_script

-- the shelf without the script
abbrev pub unscripted_files : Files
unscripted_files = (codes "cells.lib", cells_text) ∷ (codes "ab.v", pair_text) ∷ []
