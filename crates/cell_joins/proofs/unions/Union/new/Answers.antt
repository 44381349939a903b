use Rattle.cell_joins.proofs.UnionLaws.{none_joined}
use Rattle.cell_joins.proofs.unions.Union.new.Goals as goal

pub returns : goal.returns
returns c = none_joined _ c.new-2.ensures c.new.ensures
