-- What is fetched of a job's files.
use Rattle.std.specs.Prelude.{◌≡◌, ◌⊎◌, ℕ, List, Option, Some, IfSome, slice_get}
use Rattle.pw_defs.specs.declared.faults.Code.TheVariants.{F1, F2}
use Rattle.pw_defs.specs.declared.faults.LoadFault.{LoadFault}
use Rattle.pw_defs.specs.declared.faults.LoadFault.TheVariants.{Refused, Outside, Memory}
use Rattle.pw_defs.specs.declared.faults.Refusal.{Refusal}
use Rattle.pw_outer.specs.Counts.{Counts, Rose}
use Rattle.pw_outer.specs.Fetches.{Files}
use Rattle.upf_sign.specs.declared.fetching.Texts.{Texts}
use Rattle.upf_sign.specs.Faults.{IsHeld, fault_at, file_faults}
use Rattle.upf_sign.specs.Words.{Job}

-- these are the texts of the three files
pub record HasTexts (files : Files) (job : Job) (texts : Texts) : Type 0 where
  pub library_held : IsHeld files job.library texts.library.items
  pub netlist_held : IsHeld files job.netlist texts.netlist.items
  pub script_held : IsHeld files job.script texts.script.items

-- the first thing that is wrong with the files
abbrev pub IsFirstFault : Job → Files → Refusal → Type 0
IsFirstFault job files r = slice_get (file_faults files job) 0 ≡ Some r

-- what is wrong with a file
abbrev pub IsFaultAt : List ℕ → Files → Refusal → Type 0
IsFaultAt name files r = fault_at files name ≡ Some r

-- an absent file, or one that is too long, shows in the counts
abbrev pub IsCounted : Counts → Counts → Refusal → Type 0
IsCounted old new r = ((r.code ≡ F1) × Rose old.misses new.misses) ⊎ ((r.code ≡ F2) × Rose old.overs new.overs)

-- why there is no text
abbrev pub StopsFetch : Option Files → (Files → Refusal → Type 0) → Counts → Counts → LoadFault → Type 0
StopsFetch held Is old new (Refused r) = IfSome held (λ files. Is files r) × IsCounted old new r
StopsFetch held Is old new Outside = Rose old.faults new.faults
StopsFetch held Is old new Memory = Unit {0}

-- this refusal, or want of memory
abbrev pub IsRefusedAs : Refusal → LoadFault → Type 0
IsRefusedAs r (Refused s) = s ≡ r
IsRefusedAs r Outside = ⊥
IsRefusedAs r Memory = Unit {0}
