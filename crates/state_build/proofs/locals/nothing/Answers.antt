use Rattle.std.proofs.Common.{arith, refl}
use Rattle.diagram_defs.specs.Diagrams.IsKid.{empty}
use Rattle.diagram_defs.proofs.Meaning.{level_of_one}
use Rattle.diagram_defs.proofs.LocalSets.{no_state}
use Rattle.state_build.proofs.locals.nothing.Goals as goal

pub returns-clause-number : goal.returns-clause-number
returns-clause-number c =
    let last = level_of_one c.args.pool.now c.level-level.result c.level-level.ensures in
    record { is = record { level_in = omega arith; number_in = empty refl }; same = no_state c.args.pool.now c.level-level.result }
