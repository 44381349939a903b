-- One level down a walk.
use Rattle.std.specs.Prelude.{◌≡◌, ℕ, ◌+◌}
use Rattle.diagram_defs.specs.Diagrams.{Diagram}
use Rattle.state_meets.specs.declared.plans.Plan.{Plan}
use Rattle.state_meets.specs.declared.tuples.Tuple.{Tuple}
use Rattle.state_meets.specs.Walks.{Stands, numbers_behind}
use Rattle.state_meets.specs.Gathered.{begun_of}

-- the next tuple is of the next level, and may be taken in place of all numbers there
pub record IsTupleBehind (d : Diagram) (plan : Plan) (tuple : Tuple) (v : ℕ) (next : Tuple) : Type 0 where
  pub level_is : next.level ≡ tuple.level + 1
  pub stands : Stands d plan.which (tuple.level + 1) (numbers_behind d.nodes (begun_of plan) tuple.level tuple.numbers.items v) next.numbers.items
