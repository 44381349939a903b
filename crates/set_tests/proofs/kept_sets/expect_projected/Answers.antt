use Rattle.std.proofs.Common.{ap}
use Rattle.diagram_defs.specs.Diagrams.{Diagram}
use Rattle.set_tests.proofs.SmallTables.{first_none, no_arity}
use Rattle.set_tests.proofs.kept_sets.expect_projected.Goals as goal

pub new-requires-clause-arities : goal.new-requires-clause-arities
new-requires-clause-arities g c = no_arity

pub project-requires-clause-levels : goal.project-requires-clause-levels
project-requires-clause-levels g c =
    first_none c.lifted.new.pool c.in_ok-none.none (ap (λ (d : Diagram). d.arities) c.in_ok-none.ensures)

pub project-requires-clause-number : goal.project-requires-clause-number
project-requires-clause-number g c = c.in_ok-both.ensures.number
