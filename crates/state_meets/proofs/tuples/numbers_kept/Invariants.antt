use Rattle.std.proofs.Common.{◌++◌, map, take}
use Rattle.diagram_defs.specs.Diagrams.{kid}
use Rattle.state_meets.specs.Walks.{Stands}
use Rattle.state_meets.proofs.tuples.numbers_kept.Given as goal

abbrev pub invariant-loop-at : goal.invariant-loop-at
invariant-loop-at l = Stands l.pool l.plan.which l.stage.level (take l.at (map (λ n. kid l.pool.nodes n l.v) l.numbers ++ l.begun)) l.kept.items
