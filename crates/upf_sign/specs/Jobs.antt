-- The words of a job as the code has them.
use Rattle.std.specs.Prelude.{◌≡◌, ℕ, List, codes}
use Rattle.upf_sign.specs.declared.words.JobWords.{JobWords}
use Rattle.upf_sign.specs.Words.{Job}

abbrev pub job_in : JobWords → Job
job_in words = record { library = words.library.now; netlist = words.netlist.now; script = words.script.now; top = words.top.now }

-- the command and the four options in their order
abbrev pub AreOptions : List ℕ → List ℕ → List ℕ → List ℕ → List ℕ → Type 0
AreOptions command library netlist script top =
    (command ≡ codes "flat") × (library ≡ codes "-lib") × (netlist ≡ codes "-net") × (script ≡ codes "-upf") × (top ≡ codes "-top")
