-- Sets that were found for kept numbers.
use Rattle.std.specs.Prelude.{ℕ, ◌<◌, List, length, slice_index}
use Rattle.plain_lists.specs.declared.kept.Place.{Place}
use Rattle.diagram_defs.specs.Diagrams.{Diagram, Shape, IsNumberFor, kid, kids_of}
use Rattle.lift_project.specs.Lifts.{lifted_set}

-- the list has at each child of a number the number of the child's set, by the places behind
pub record AreKidsLifted (d : Diagram) (nodes : List Shape) (places : List Place) (n : ℕ) (sets : List ℕ) : Type 0 where
  pub inside : (v : ℕ) → v < length (kids_of nodes n) → kid nodes n v < length sets
  pub each : (v : ℕ) → v < length (kids_of nodes n) → IsNumberFor d 0 (lifted_set d.arities nodes places (kid nodes n v)) (slice_index sets (kid nodes n v))
