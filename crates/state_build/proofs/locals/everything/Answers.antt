use Rattle.std.proofs.Common.{arith}
use Rattle.diagram_defs.proofs.Meaning.{level_of_one}
use Rattle.diagram_defs.proofs.LocalSets.{every_state}
use Rattle.state_build.proofs.locals.everything.Goals as goal

pub returns-clause-number : goal.returns-clause-number
returns-clause-number c =
    let last = level_of_one c.args.pool.now c.level-level.result c.level-level.ensures in
    record { is = record { level_in = omega arith; number_in = c.level-level.ensures }; same = every_state c.args.pool.now c.level-level.result last }
