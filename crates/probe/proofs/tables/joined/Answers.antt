use Rattle.probe.proofs.EvenTables.{one_level}
use Rattle.probe.proofs.tables.joined.Goals as goal

pub and-number-requires : goal.and-number-requires
and-number-requires c =
    one_level c.args.pool.now c.args.level c.args.a c.args.b (c.is_of_level.ensures c.if-not-is_of_level.false) (c.is_of_level-2.ensures c.if-not-is_of_level-2.false)

pub or-number-requires : goal.or-number-requires
or-number-requires c =
    one_level c.args.pool.now c.args.level c.args.a c.args.b (c.is_of_level.ensures c.if-not-is_of_level.false) (c.is_of_level-2.ensures c.if-not-is_of_level-2.false)
