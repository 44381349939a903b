use Rattle.std.proofs.Common.{◌≡◌, length, arith}
use Rattle.name_index.proofs.Found.{first_all, first_more}
use Rattle.name_index.proofs.table.table_of.Goals as goal

pub loop-number-preserved : goal.loop-number-preserved
loop-number-preserved c =
    let made = c.commit.ensures in
    first_more c.args.names.now c.loop-number.number c.name-name.result.now c.loop-number.table c.prepare.new.table c.commit.new.table c.requires.differ c.name-name.ensures
    c.loop-number.invariant c.in_ok-prepare.ensures.same made.smooth made.places made.count made.found made.others

pub returns-clause-table : goal.returns-clause-table
returns-clause-table c =
    let all : c.loop-number.number ≡ length c.args.names.now = omega arith in
    first_all c.args.names.now c.loop-number.number c.loop-number.table all c.loop-number.invariant
