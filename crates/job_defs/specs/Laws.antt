-- A job has one answer.
use Rattle.std.specs.Prelude.{◌≡◌, ℕ, List}
use Rattle.pw_defs.specs.declared.intent.Want.TheVariants.{Check}
use Rattle.pw_outer.specs.Fetches.{Files}
use Rattle.design_defs.specs.Sound.{IsSoundDesign}
use Rattle.domain_defs.specs.SoundIntent.{IsSoundIntent}
use Rattle.job_defs.specs.Answers.{Answer, Deserve}
use Rattle.job_defs.specs.Jobs.{Job}
use Rattle.job_defs.specs.Loading.{Loaded, loaded}
use Rattle.job_defs.specs.Readers.{Readers, AreExact}

-- a sound design with a sound intent, which is wanted for a check
pub record IsSoundLoad (load : Loaded) : Type 0 where
  pub design : IsSoundDesign load.design
  pub intent : IsSoundIntent load.design load.intent
  pub check : load.intent.want ≡ Check

-- what readers load is sound
abbrev pub LoadSound : Readers → Type 0
LoadSound readers = (files : Files) (job : Job) (load : Loaded) → (loaded readers files job).gives load → IsSoundLoad load

-- words deserve one answer over the files of a shelf
abbrev pub HasOneAnswer : Type 1
HasOneAnswer = (readers : Readers) → AreExact readers → LoadSound readers → (words : List (List ℕ)) (files : Files) (a b : Answer)
    → Deserve readers words files a → Deserve readers words files b → a ≡ b
