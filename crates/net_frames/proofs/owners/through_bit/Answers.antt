use Rattle.std.proofs.Common.{◌+◌}
use Rattle.net_instances.proofs.RowsInOrder.{sum_there}
use Rattle.net_frames.specs.Feeding.{HasThrough}
use Rattle.net_frames.proofs.OwnFeeds.{some_at, through_is}
use Rattle.net_frames.proofs.owners.through_bit.Goals as goal

pub returns : goal.returns
returns c =
    let r = c.args.rows.now in
    let row = c.instance-row.result in
    let kind = c.kind-kind.result in
    through_is r c.args.inst row kind c.instance-row.ensures c.kind-kind.ensures c.args.at c.in_ok-bit.bit c.in_ok-pin.pin c.place_of.result
    (some_at (HasThrough r kind.body) c.through_pin.result c.in_ok-pin.pin c.in_ok-pin.ensures.ok_part c.through_pin.ensures) c.if-at-kind.false c.place_of.ensures
    (c.is_of_port.ensures c.if-not-is_of_port.false)
    (sum_there c.sum_of.result c.in_ok-bit.bit (row.first_bit + c.args.at) c.in_ok-bit.ensures.ok_part c.sum_of.ensures)
