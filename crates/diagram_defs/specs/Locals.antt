-- Sets of whole states that the values from some level on decide.
use Rattle.std.specs.Prelude.{◌≡◌, ℕ, ◌≤◌, Bool, List, All, length}
use Rattle.diagram_defs.specs.declared.locals.Local.{Local}
use Rattle.diagram_defs.specs.Diagrams.{Diagram, IsSet, member}
use Rattle.diagram_defs.specs.Sets.{widened_set}

-- the level is one of the table or the last, and the number is of the level
pub record IsLocal (d : Diagram) (local : Local) : Type 0 where
  pub level_in : local.level ≤ length d.arities
  pub number_in : IsSet d local.level local.number

-- each of them is one
abbrev pub AreLocals : Diagram → List Local → Type 0
AreLocals d locals = All (IsLocal d) locals

-- the whole states whose rest of a level is in the set that a number means
abbrev pub states_from : Diagram → ℕ → ℕ → List ℕ → Bool
states_from d level n state = widened_set d 0 level (member d.nodes n) state

-- the states of a local set
abbrev pub states_of : Diagram → Local → List ℕ → Bool
states_of d local state = states_from d local.level local.number state

-- its states are those of the set
pub record IsLocalFor (d : Diagram) (set : List ℕ → Bool) (local : Local) : Type 0 where
  pub is : IsLocal d local
  pub same : (state : List ℕ) → states_of d local state ≡ set state
