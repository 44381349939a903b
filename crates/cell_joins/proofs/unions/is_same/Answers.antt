use Rattle.cell_joins.proofs.SameCells.{same_cell}
use Rattle.cell_joins.proofs.unions.is_same.Goals as goal

pub returns : goal.returns
returns c = rw c.eq.ensures (same_cell c.args.one.now c.args.other.now)
