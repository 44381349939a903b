-- The refusal of a job one of whose files isn't there.
use Rattle.std.proofs.Common.{◌≡◌, ℕ, List, [], ◌∷◌, ◌++◌, None, inl, inr, refl, sym, subst}
use Rattle.std.specs.List.{AllByRecursion}
use Rattle.pw_defs.specs.declared.faults.Code.TheVariants.{F1}
use Rattle.pw_outer.specs.Fetches.{Files, file_named}
use Rattle.step_defs.specs.Steps.{for_each}
use Rattle.job_defs.specs.FileFaults.{IsHeld, IsFileFault, fetched, refusal}
use Rattle.job_defs.specs.Jobs.{Job, files_of}
use Rattle.job_readings.specs.Readings.{HasLoadRefusal}

-- the file is there and not too long
abbrev pub IsThere : Files → List ℕ → Type 0
IsThere files name = (text : List ℕ) × IsHeld files name text

-- of files in order, the first that isn't there is the fault
first_absent : (files : Files) (front : List (List ℕ)) (name : List ℕ) (back : List (List ℕ)) → AllByRecursion (IsThere files) front
    → file_named name files ≡ None → (for_each (fetched files) (front ++ name ∷ back)).faults (refusal F1 name 0 name)
first_absent files [] name back there none = inl (IsFileFault.absent none refl)
first_absent files (file ∷ front) name back there none = inr (there.0.0, there.0.1, inl (first_absent files front name back there.1 none))

-- A job is refused with F1 at line 0 of the first file, in order of the words, that isn't there, where those before it are not too long.
pub an_absent_file_is_refused : (files : Files) (job : Job) (front : List (List ℕ)) (name : List ℕ) (back : List (List ℕ))
    → files_of job ≡ front ++ name ∷ back → AllByRecursion (IsThere files) front → file_named name files ≡ None
    → HasLoadRefusal files job (refusal F1 name 0 name)
an_absent_file_is_refused files job front name back order there none =
    let P : List (List ℕ) → Type 0 = λ names. (for_each (fetched files) names).faults (refusal F1 name 0 name) in
    inl (subst P (sym order) (first_absent files front name back there none))
