use Rattle.std.proofs.Common.{◌<◌, false, length, map, take, subst, arith}
use Rattle.cell_joins.specs.Unions.{Takes}
use Rattle.cell_joins.proofs.PlacedLaws.{otherwise_told}
use Rattle.cell_joins.proofs.unions.joined_groups.Goals as goal

pub returns-then-not-taken : goal.returns-then-not-taken
returns-then-not-taken c =
    let within : c.loop-group.group-index < length c.args.placed.now = omega arith in
    let takes : Takes c.loop-group.union c.group-item.result.cell false c.take.new.self =
    subst (λ taken. Takes c.loop-group.union c.group-item.result.cell taken c.take.new.self) c.if-not-taken.true c.in-Ok.ensures.takes in
    otherwise_told c.args.placed.now c.loop-group.group-index c.group-item.result c.given_otherwise.result within c.group-item.is c.loop-group.invariant.alike
    (takes (map (λ p. p.cell) (take c.loop-group.group-index c.args.placed.now)) c.loop-group.invariant) c.given_otherwise.ensures
