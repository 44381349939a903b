use Rattle.std.proofs.Common.{◌<◌, length, sym, ◌∙◌, arith}
use Rattle.cell_joins.proofs.PlacedLaws.{odd_told, straight_more}
use Rattle.cell_joins.proofs.readings.checked_roles.Goals as goal

pub returns-then-is_odd : goal.returns-then-is_odd
returns-then-is_odd c =
    let within : c.loop-group.group-index < length c.args.placed.now = omega arith in
    odd_told c.args.placed.now c.loop-group.group-index c.group-item.result c.odd.result within c.group-item.is c.loop-group.invariant
    (sym c.is_odd.ensures ∙ c.if-is_odd.true) c.odd.ensures

pub loop-group-preserved : goal.loop-group-preserved
loop-group-preserved c =
    let within : c.loop-group.group-index < length c.args.placed.now = omega arith in
    straight_more c.args.placed.now c.loop-group.group-index c.group-item.result within c.group-item.is c.loop-group.invariant
    (sym c.is_odd.ensures ∙ c.if-is_odd.false)
