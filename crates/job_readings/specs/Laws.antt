-- What is asked of sources and scripts so that a job has one answer, and that it has one.
use Rattle.std.specs.Prelude.{◌≡◌, ℕ, List, []}
use Rattle.pw_defs.specs.declared.cells.Cells.{Cells}
use Rattle.pw_defs.specs.declared.design.Design.{Design}
use Rattle.pw_defs.specs.declared.intent.Intent.{Intent}
use Rattle.pw_defs.specs.declared.intent.Want.TheVariants.{Check}
use Rattle.pw_defs.specs.declared.netlist.Module.{Module}
use Rattle.pw_outer.specs.Fetches.{Files}
use Rattle.design_defs.specs.DesignFaults.{IsDesignOf, sources}
use Rattle.design_defs.specs.Inputs.{AreReadSources}
use Rattle.design_defs.specs.Sound.{IsSoundDesign}
use Rattle.domain_defs.specs.SoundIntent.{IsSoundIntent}
use Rattle.job_defs.specs.Answers.{Answer}
use Rattle.job_readings.specs.Readings.{readers, Deserves}

-- the design of such modules and cells is sound
abbrev pub SourcesMakeSoundDesigns : Type 0
SourcesMakeSoundDesigns =
    (modules : List Module) (cells : Cells) (top : List ℕ) (design : Design) → AreReadSources (sources modules cells [] top)
    → IsDesignOf modules cells [] top design → IsSoundDesign design

-- the intent of a script over a sound design is sound
abbrev pub ScriptsMakeSoundIntents : Type 0
ScriptsMakeSoundIntents =
    (files : Files) (design : Design) (script : List ℕ) (intent : Intent) → IsSoundDesign design
    → (readers.intent files design script Check).gives intent → IsSoundIntent design intent

-- what is read makes sound designs and sound intents
pub record ReadingIsSound : Type 0 where
  pub designs : SourcesMakeSoundDesigns
  pub intents : ScriptsMakeSoundIntents

-- words deserve one answer over the files of a shelf
abbrev pub DeserveOneAnswer : Type 0
DeserveOneAnswer = ReadingIsSound → (words : List (List ℕ)) (files : Files) (a b : Answer) → Deserves words files a → Deserves words files b → a ≡ b
