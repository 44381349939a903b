-- The words of a job.
use Rattle.std.specs.Prelude.{◌≡◌, ◌≢◌, ℕ, List, [], ◌∷◌, codes}

-- the names of the three files of a job, and of the module that is checked
pub record Job : Type 0 where
  pub library : List ℕ
  pub netlist : List ℕ
  pub script : List ℕ
  pub top : List ℕ

-- a value isn't empty and doesn't begin with a dash
abbrev pub IsValue : List ℕ → Type 0
IsValue [] = ⊥
IsValue (c ∷ cs) = c ≢ 45

-- each of the four is a value
pub record HasValues (job : Job) : Type 0 where
  pub library_is : IsValue job.library
  pub netlist_is : IsValue job.netlist
  pub script_is : IsValue job.script
  pub top_is : IsValue job.top

-- The words are these nine in this order: the command, and each option with its value.
pub record IsJob (words : List (List ℕ)) (job : Job) : Type 0 where
  pub spelled : words ≡ codes "flat" ∷ codes "-lib" ∷ job.library ∷ codes "-net" ∷ job.netlist ∷ codes "-upf" ∷ job.script ∷ codes "-top" ∷ job.top ∷ []
  pub values : HasValues job

-- the words are no job
abbrev pub IsNoJob : List (List ℕ) → Type 0
IsNoJob words = (job : Job) → IsJob words job → ⊥

-- the words are some job
pub record HasJob (words : List (List ℕ)) : Type 0 where
  pub job : Job
  pub is_job : IsJob words job
