use Rattle.probe.proofs.EvenTables.{pair_of_kids}
use Rattle.probe.proofs.tables.case.Goals as goal

pub case-number-requires-clause-below : goal.case-number-requires-clause-below
case-number-requires-clause-below c =
    pair_of_kids c.args.pool.now _ c.args.a c.args.b (c.is_of_level.ensures c.if-not-is_of_level.false) (c.is_of_level-2.ensures c.if-not-is_of_level-2.false)
