use Rattle.std.proofs.Common.{◌≡◌, ℕ, ◌<◌}
use Rattle.diagram_defs.specs.Diagrams.{kid}
use Rattle.lift_project.proofs.least.least_value.Given as goal

abbrev pub invariant-loop-value : goal.invariant-loop-value
invariant-loop-value l = (v : ℕ) → v < l.value → kid l.pool.nodes l.n v ≡ 0
