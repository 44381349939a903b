use Rattle.std.proofs.Common.{arith, length}
use Rattle.name_rows.proofs.CutLemmas.{part_rises, part_within}
use Rattle.name_rows.proofs.rows.start_of.Goals as goal

pub returns-then-at-eq0-clause-within : goal.returns-then-at-eq0-clause-within
returns-then-at-eq0-clause-within c =
    (part_within 0 c.args.ends.now (length c.args.row.now) c.args.at c.requires.cut c.requires.within).1

pub returns-else-at-eq0-clause-rises : goal.returns-else-at-eq0-clause-rises
returns-else-at-eq0-clause-rises c =
    part_rises c.args.ends.now (length c.args.row.now) c.args.at c.requires.cut c.requires.within (omega arith)

pub returns-else-at-eq0-clause-within : goal.returns-else-at-eq0-clause-within
returns-else-at-eq0-clause-within c =
    (part_within 0 c.args.ends.now (length c.args.row.now) c.args.at c.requires.cut c.requires.within).1
