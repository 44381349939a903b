-- The words of a job: a command and its options.
use Rattle.std.specs.Prelude.{◌≡◌, ◌≢◌, ℕ, List, [], ◌∷◌, Option, Some, None, codes}
use Rattle.std.specs.List.{filter_map, flat_map}
use Rattle.std.specs.List.{AllByRecursion}

-- an option with its value: a file of cells, a file of modules, the script, or the module at the top
pub data JobOption : Type 0 where
  library : List ℕ → JobOption
  netlist : List ℕ → JobOption
  script : List ℕ → JobOption
  top : List ℕ → JobOption

-- the two words of an option
abbrev pub option_words : JobOption → List (List ℕ)
option_words (library file) = codes "-lib" ∷ file ∷ []
option_words (netlist file) = codes "-net" ∷ file ∷ []
option_words (script file) = codes "-upf" ∷ file ∷ []
option_words (top name) = codes "-top" ∷ name ∷ []

-- a value isn't empty and doesn't begin with a dash
abbrev pub IsValue : List ℕ → Type 0
IsValue [] = ⊥
IsValue (c ∷ cs) = c ≢ 45

abbrev pub HasValue : JobOption → Type 0
HasValue (library file) = IsValue file
HasValue (netlist file) = IsValue file
HasValue (script file) = IsValue file
HasValue (top name) = IsValue name

abbrev pub library_in : JobOption → Option (List ℕ)
library_in (library file) = Some file
library_in (netlist file) = None
library_in (script file) = None
library_in (top name) = None

abbrev pub netlist_in : JobOption → Option (List ℕ)
netlist_in (library file) = None
netlist_in (netlist file) = Some file
netlist_in (script file) = None
netlist_in (top name) = None

abbrev pub script_in : JobOption → Option (List ℕ)
script_in (library file) = None
script_in (netlist file) = None
script_in (script file) = Some file
script_in (top name) = None

abbrev pub top_in : JobOption → Option (List ℕ)
top_in (library file) = None
top_in (netlist file) = None
top_in (script file) = None
top_in (top name) = Some name

abbrev pub file_in : JobOption → Option (List ℕ)
file_in (library file) = Some file
file_in (netlist file) = Some file
file_in (script file) = Some file
file_in (top name) = None

-- a job: its options in order, its script, and the module at its top
pub record Job : Type 0 where
  pub options : List JobOption
  pub script : List ℕ
  pub top : List ℕ

-- the files of cells, in order of the words
abbrev pub libraries : Job → List (List ℕ)
libraries job = filter_map library_in job.options

-- the files of modules, in order of the words
abbrev pub netlists : Job → List (List ℕ)
netlists job = filter_map netlist_in job.options

-- all files that the words name, in their order
abbrev pub files_of : Job → List (List ℕ)
files_of job = filter_map file_in job.options

-- The words are the command and its options in any order: libraries and netlists, at least one of each, one script and
-- one top.
pub record IsJob (words : List (List ℕ)) (job : Job) : Type 0 where
  pub spelled : words ≡ codes "flat" ∷ flat_map option_words job.options
  pub values : AllByRecursion HasValue job.options
  pub some_library : libraries job ≢ []
  pub some_netlist : netlists job ≢ []
  pub one_script : filter_map script_in job.options ≡ job.script ∷ []
  pub one_top : filter_map top_in job.options ≡ job.top ∷ []

-- the words are no job
abbrev pub IsNoJob : List (List ℕ) → Type 0
IsNoJob words = (job : Job) → IsJob words job → ⊥
