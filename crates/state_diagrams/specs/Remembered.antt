-- Remembered results.
use Rattle.std.specs.Prelude.{◌≡◌, ℕ, Some}
use Rattle.std.specs.declared.hash.FoldHasher.{FoldHasher}
use Rattle.std.specs.declared.hash.BuildHasherDefault.{BuildHasherDefault}
use Rattle.std.specs.HashMap.{HashMap, get}
use Rattle.diagram_defs.specs.Diagrams.{Diagram, IsSet, IsNumberFor}
use Rattle.state_diagrams.specs.declared.joins.Task.{Task}
use Rattle.state_diagrams.specs.contracts.joins.TaskPartialEq.TheImpl.{eq-value}
use Rattle.state_diagrams.specs.Joins.{joined_set}

-- n is the join of two numbers of the level
pub record IsRemembered (d : Diagram) (task : Task) (n : ℕ) : Type 0 where
  pub first : IsSet d task.level task.a
  pub second : IsSet d task.level task.b
  pub joined : IsNumberFor d task.level (joined_set d task.join task.level task.a task.b) n

-- each remembered result is right
pub record IsMemo (d : Diagram) (memo : HashMap Task ℕ (BuildHasherDefault FoldHasher)) : Type 0 where
  pub each : (task : Task) (n : ℕ) → get eq-value.it memo task ≡ Some n → IsRemembered d task n
