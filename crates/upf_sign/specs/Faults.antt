-- The first fault of a job over the files that a shelf holds.
use Rattle.std.specs.Prelude.{◌≡◌, ℕ, ◌≤◌, List, [], ◌∷◌, Option, None, Some, nat_lt, length, slice_get, codes, if◌then◌else◌}
use Rattle.std.specs.List.{filter_map}
use Rattle.pw_defs.specs.declared.faults.Code.TheVariants.{F1, F2, U17, Z1}
use Rattle.pw_defs.specs.declared.faults.Refusal.{Refusal}
use Rattle.pw_outer.specs.Fetches.{Files, file_named}
use Rattle.pw_outer.specs.declared.shelves.TheConstants.{LONGEST_FILE}
use Rattle.upf_sign.specs.declared.answers.Answer.{Answer}
use Rattle.upf_sign.specs.declared.answers.Answer.TheVariants.{OtherForm, NoLegal}
use Rattle.upf_sign.specs.Answers.{IsAnswer}
use Rattle.upf_sign.specs.Words.{Job}

-- F1 for a file that isn't there, and F2 for one that is too long
abbrev pub file_fault : List ℕ → Option (List ℕ) → Option Refusal
file_fault name None = Some (record { code = F1; file = name; line = 0; name = name })
file_fault name (Some text) = if nat_lt LONGEST_FILE (length text) then Some (record { code = F2; file = name; line = 0; name = name }) else None

abbrev pub fault_at : Files → List ℕ → Option Refusal
fault_at files name = file_fault name (file_named name files)

-- what is wrong with the files of a job, in the order of the words
abbrev pub file_faults : Files → Job → List Refusal
file_faults files job = filter_map (fault_at files) (job.library ∷ job.netlist ∷ job.script ∷ [])

-- a file that is there and isn't too long
abbrev pub IsHeld : Files → List ℕ → List ℕ → Type 0
IsHeld files name text = (file_named name files ≡ Some text) × (length text ≤ LONGEST_FILE)

-- the three files are there, and this is answered on their texts
pub record IsAnsweredBy (files : Files) (job : Job) (answer : Answer) : Type 0 where
  pub library : List ℕ
  pub netlist : List ℕ
  pub script : List ℕ
  pub library_held : IsHeld files job.library library
  pub netlist_held : IsHeld files job.netlist netlist
  pub script_held : IsHeld files job.script script
  pub is_answer : IsAnswer library netlist script job.top answer

-- the texts are no design with an intent
abbrev pub form_fault : Job → Refusal
form_fault job = record { code = Z1; file = job.script; line = 0; name = codes "-" }

-- no state of the supplies is legal
abbrev pub legal_fault : Job → Refusal
legal_fault job = record { code = U17; file = job.script; line = 0; name = job.top }

-- The first fault of a job: of a file, else of the texts, else of the states.
pub data IsFault (files : Files) (job : Job) (r : Refusal) : Type 0 where
  of_file : slice_get (file_faults files job) 0 ≡ Some r → IsFault files job r
  of_form : IsAnsweredBy files job OtherForm → r ≡ form_fault job → IsFault files job r
  of_states : IsAnsweredBy files job NoLegal → r ≡ legal_fault job → IsFault files job r
