use Rattle.probe.proofs.EvenTables.{found_level}
use Rattle.probe.proofs.tables.is_of_level.Goals as goal

pub returns-then-found-level : goal.returns-then-found-level
returns-then-found-level c = λ yes. found_level c.args.pool.now c.args.level c.level-found.result c.args.n c.if-found-level.true c.level-found.ensures
