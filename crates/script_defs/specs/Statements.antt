-- Commands with their words taken apart: the command's own words, and its options in the order given.
use Rattle.std.specs.Prelude.{ℕ, Bool, true, false, List, [], ◌∷◌, Option, Some, None, is_some, unwrap_or}
use Rattle.std.specs.List.{find, filter, flat_map}
use Rattle.pw_defs.specs.declared.terms.Term.{Term}
use Rattle.pw_defs.specs.declared.values.Value.{Value}
use Rattle.list_defs.specs.Members.{same_name}

-- what a power state is given: an expression on supplies or on states, which is `None` where no term reads so, or a mark
pub data StateOption : Type 0 where
  supply_expr : Option Term → StateOption
  logic_expr : Option Term → StateOption
  legal : StateOption
  illegal : StateOption

-- what the value of an option says
pub data Parts : Type 0 where
  flag : Parts
  truth : Bool → Parts
  volts : ℕ → Parts
  word : List ℕ → Parts
  names : List (List ℕ) → Parts
  -- a key with a name: `{power VA}`, `{primary SA}`, `{o VA}`, and of an on state its name and its input port
  pair : List ℕ → List ℕ → Parts
  -- names in pairs: a cell and its port, a lower set and the upper one
  pairs : List (List ℕ × List ℕ) → Parts
  -- a state of a supply with its value
  valued : List ℕ → Value → Parts
  -- a state of a set, domain or group with its own options
  described : List ℕ → List StateOption → Parts

-- an option with its value, as it was written and taken apart
pub record Clause : Type 0 where
  pub option : List ℕ
  pub bytes : List ℕ
  pub parts : Parts

pub record Statement : Type 0 where
  pub name : List ℕ
  pub args : List (List ℕ)
  pub clauses : List Clause
  pub line : ℕ
  pub passed : Bool

-- whether it is this command
abbrev pub is_command : List ℕ → Statement → Bool
is_command name s = same_name name s.name

-- the clauses of one option, in order
abbrev pub clauses_of : List ℕ → List Clause → List Clause
clauses_of option clauses = filter (λ c. same_name option c.option) clauses

-- whether an option is given
abbrev pub is_given : List ℕ → List Clause → Bool
is_given option clauses = is_some (find (λ c. same_name option c.option) clauses)

-- the names that a value lists: one word is a list of one name
abbrev pub names_in : Parts → List (List ℕ)
names_in (Parts.word w) = w ∷ []
names_in (Parts.names ws) = ws
names_in (Parts.pair key name) = name ∷ []
names_in _ = []

-- the pairs that a value lists
abbrev pub pairs_in : Parts → List (List ℕ × List ℕ)
pairs_in (Parts.pair key name) = (key, name) ∷ []
pairs_in (Parts.pairs ps) = ps
pairs_in _ = []

-- a flag says yes, and so does the truth value TRUE
abbrev pub truth_in : Parts → Bool
truth_in Parts.flag = true
truth_in (Parts.truth b) = b
truth_in _ = false

-- the microvolts that a value gives
abbrev pub volts_in : Parts → List ℕ
volts_in (Parts.volts v) = v ∷ []
volts_in _ = []

-- the state of a supply that a value gives
abbrev pub values_in : Parts → List (List ℕ × Value)
values_in (Parts.valued name v) = (name, v) ∷ []
values_in _ = []

-- the state of an object that a value describes
abbrev pub described_in : Parts → List (List ℕ × List StateOption)
described_in (Parts.described name options) = (name, options) ∷ []
described_in _ = []

-- the names that an option lists, over all its clauses
abbrev pub names_of : List ℕ → List Clause → List (List ℕ)
names_of option clauses = flat_map (λ (c : Clause). names_in c.parts) (clauses_of option clauses)

abbrev pub pairs_of : List ℕ → List Clause → List (List ℕ × List ℕ)
pairs_of option clauses = flat_map (λ (c : Clause). pairs_in c.parts) (clauses_of option clauses)

abbrev pub first_of : {X : Type 0} → List X → Option X
first_of [] = None
first_of (x ∷ xs) = Some x

-- the name that an option gives
abbrev pub name_of : List ℕ → List Clause → Option (List ℕ)
name_of option clauses = first_of (names_of option clauses)

-- whether a flag or a truth value is given and true
abbrev pub is_true : List ℕ → List Clause → Bool
is_true option clauses = is_some (find (λ (c : Clause). truth_in c.parts) (clauses_of option clauses))

-- the command's first own word, which for a command that makes an object is its name
abbrev pub subject_of : Statement → List ℕ
subject_of s = unwrap_or (first_of s.args) []
