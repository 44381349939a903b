use Rattle.unit_lists.proofs.ValueLaws.{lists_are}
use Rattle.unit_lists.proofs.lists.unit_lists.Goals as goal

pub returns : goal.returns
returns c =
    lists_are c.args.supplies.now c.args.units.now c.in_ok-plan.plan c.in_ok-plan.ensures c.add_own_values.new.begins.items c.in_ok-values.values.keys c.in_ok-lists.lists
    c.in_ok-add_own_values.ensures c.in_ok-values.ensures c.in_ok-lists.ensures
