use Rattle.set_tests.proofs.SmallTables.{some_number, made_set}
use Rattle.diagram_defs.proofs.Yielding.{value_of}
use Rattle.set_tests.proofs.kept_sets.lifted.Goals as goal

pub lift-requires-clause-number : goal.lift-requires-clause-number
lift-requires-clause-number g c =
    some_number c.in_ok-kept.kept c.number_of-node.result c.in_ok-kept.ensures.both c.in_ok-kept.ensures.one c.number_of-node.ensures

pub returns-clause-number : goal.returns-clause-number
returns-clause-number g c = made_set c.lift.new.into _ c.lift.result (value_of _ _ c.lift.result c.lift.ensures)
