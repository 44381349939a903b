-- The world that a script makes, line by line. Everything in it is known by names: an object by the path of its scope
-- and its simple name, a supply by its whole name.
use Rattle.std.specs.Prelude.{ℕ, Bool, false, ◌&&◌, List, Option, nat_eq}
use Rattle.pw_defs.specs.declared.script.Line.{Line}
use Rattle.pw_defs.specs.declared.strategies.Tool.{Tool}
use Rattle.pw_defs.specs.declared.supplies.SupplyKind.{SupplyKind}
use Rattle.pw_defs.specs.declared.terms.Term.{Term}
use Rattle.pw_defs.specs.declared.values.Value.{Value}
use Rattle.list_defs.specs.Members.{same_name}
use Rattle.script_defs.specs.Statements.{Clause}

-- the line that made a thing: its file, its number, and the scope at which its frame began
pub record Origin : Type 0 where
  pub file : List ℕ
  pub line : ℕ
  pub home : List ℕ

-- What a supply is known by: a port, net or switch port that a script made by its name with the path in front, and of
-- the model at an instance an interface supply or an `out` port by its number.
pub data SupplyKey : Type 0 where
  made : List ℕ → SupplyKey
  inner : List ℕ → ℕ → SupplyKey
  outer : List ℕ → ℕ → SupplyKey

-- whether two keys are the same
abbrev pub same_supply : SupplyKey → SupplyKey → Bool
same_supply (SupplyKey.made a) (SupplyKey.made b) = same_name a b
same_supply (SupplyKey.inner a n) (SupplyKey.inner b m) = same_name a b && nat_eq n m
same_supply (SupplyKey.outer a n) (SupplyKey.outer b m) = same_name a b && nat_eq n m
same_supply _ _ = false

-- the first supply is fed by the second
pub record Link : Type 0 where
  pub fed : SupplyKey
  pub by : SupplyKey

-- a state of a supply, as a line states it
pub record SupplyState : Type 0 where
  pub supply : SupplyKey
  pub name : List ℕ
  pub value : Value
  pub origin : Origin

-- an option as a line gave it; the names in its value are seen from the scope of that line
pub record GivenClause : Type 0 where
  pub clause : Clause
  pub scope : List ℕ
  pub origin : Origin

-- an expression of a power state; the names in it are seen from a scope
pub record Expression : Type 0 where
  pub term : Term
  pub scope : List ℕ
  pub origin : Origin

-- a state of a set, domain or group: its expressions, joined by "and", and the lines that mark it legal or illegal
pub record PowerState : Type 0 where
  pub name : List ℕ
  pub line : ℕ
  pub expressions : List Expression
  pub legal : Option ℕ
  pub illegal : Option ℕ

-- the states of an object, and the line that says that there are no more
pub record PowerStates : Type 0 where
  pub states : List PowerState
  pub complete : Option ℕ

-- the set that a domain has as its primary or default_isolation, by its whole name, and the line that gave it
pub record Handle : Type 0 where
  pub set : List ℕ
  pub line : ℕ

-- a row of a table: for each column the value that its state stands for, or none for `*`
pub record Row : Type 0 where
  pub name : List ℕ
  pub cells : List (Option Value)

-- what stands under a name
pub data Body : Type 0 where
  supply : SupplyKind → Body
  set : List GivenClause → PowerStates → Body
  -- a switch, with the names of its output port, of its input ports, and of the inputs that on states name
  switch : List ℕ → List (List ℕ) → List (List ℕ) → Body
  -- a domain, with its options and the sets of its two handles
  domain : List GivenClause → Option Handle → Option Handle → PowerStates → Body
  table : List SupplyKey → List Row → Body
  group : PowerStates → Body
  strategy : Tool → List GivenClause → Body
  -- a power model, with the modules that it is for and the lines of its body
  power_model : List (List ℕ) → List Line → Body

-- an object, in the scope where it was made
pub record Object : Type 0 where
  pub scope : List ℕ
  pub name : List ℕ
  pub origin : Origin
  pub body : Body

-- a line that gives a set to a leaf cell, or to a port of the top
pub record SetLine : Type 0 where
  pub place : List ℕ
  pub set : List ℕ
  pub origin : Origin

-- what a word of a line has to name
pub data Naming : Type 0 where
  -- an instance that can be a scope, one that becomes it, an instance of any kind, a leaf cell, a part of the design, a
  -- whole port
  scope next_scope instance cell part port : Naming
  -- a supply net or port, a supply port, any supply, a column of a table
  net supply_port supply column : Naming
  -- a set, the lower set of a map, a handle of a domain, a domain, a set or a domain, what has power states
  set lower_set handle domain source object : Naming
  -- a group, a table, a strategy for isolation or for level shifting, a power model
  group table isolation shifting power_model : Naming

-- a word of a line that names something, seen from a scope
pub record Use : Type 0 where
  pub naming : Naming
  pub word : List ℕ
  pub scope : List ℕ
  pub origin : Origin

-- All that the lines run so far have made. `marks` are the instances marked as soft macros, `ports` the supply ports in
-- order of declaration, `passed` the scopes at which the frames of passed-over lines began.
pub record World : Type 0 where
  pub objects : List Object
  pub links : List Link
  pub stated : List SupplyState
  pub cell_sets : List SetLine
  pub driver_sets : List SetLine
  pub receiver_sets : List SetLine
  pub ports : List (List ℕ)
  pub marks : List (List ℕ)
  pub passed : List (List ℕ)
  pub uses : List Use
  pub lines : ℕ

-- A frame where lines are run: its file, the scope at which it began, the scope now, and how many frames may still be
-- opened inside it.
pub record Frame : Type 0 where
  pub file : List ℕ
  pub home : List ℕ
  pub scope : List ℕ
  pub left : ℕ
