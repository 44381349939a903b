use Rattle.std.proofs.Common.{arith}
use Rattle.unit_lists.proofs.RootLemmas.{more_ends, no_ends, roots_from_ends}
use Rattle.unit_lists.proofs.SetLemmas.{item_there}
use Rattle.unit_lists.proofs.roots.roots_of_ends.Goals as goal

pub loop-unit-init : goal.loop-unit-init
loop-unit-init c = no_ends c.args.supplies.now c.args.units.now c.new-roots.result c.new-roots.ensures.empty

pub loop-unit-preserved : goal.loop-unit-preserved
loop-unit-preserved c =
    let end = c.len-unit-end.ensures in
    let below = c.loop-unit-test.true in
    more_ends c.args.supplies.now c.args.units.now c.loop-unit.roots c.add_ends.new.roots c.loop-unit.unit _ c.as_slice-ports.result.now
    (item_there c.args.units.now c.as_slice-items.result.now c.loop-unit.unit _ c.as_slice-items.ensures.items (omega arith))
    c.as_slice-ports.ensures.items c.in_ok-add_ends.ensures c.loop-unit.invariant

pub returns : goal.returns
returns c =
    let end = c.len-unit-end.ensures in
    let past = c.loop-unit-test.false in
    roots_from_ends c.args.supplies.now c.args.units.now c.loop-unit.roots c.loop-unit.unit (omega arith) c.loop-unit.invariant
