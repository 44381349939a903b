use Rattle.set_tests.proofs.SmallTables.{first_level}
use Rattle.set_tests.proofs.kept_sets.expect_states.Goals as goal

pub project-requires-clause-levels : goal.project-requires-clause-levels
project-requires-clause-levels g c =
    first_level c.args.pool.now c.in_ok-fronts.fronts c.args.arity 2 c.requires.arities c.in_ok-fronts.ensures
