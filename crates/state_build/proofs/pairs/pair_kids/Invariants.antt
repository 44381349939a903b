use Rattle.std.proofs.Common.{length}
use Rattle.diagram_defs.specs.Parts.{GrowsBy, IsPartOf}
use Rattle.diagram_defs.proofs.Steps.{AreKidsSo}
use Rattle.state_build.specs.ValueTests.{pair_set}
use Rattle.state_build.proofs.pairs.pair_kids.Given as goal

abbrev pub invariant-loop-from : goal.invariant-loop-from
invariant-loop-from l = record {
  grows : GrowsBy (IsPartOf (length l.fn.pool.arities) l.first (pair_set l.fn.pool.arities l.lists l.first l.second l.side l.by)) l.fn.pool l.pool;
  kids : AreKidsSo l.pool l.first (pair_set l.fn.pool.arities l.lists l.first l.second l.side l.by) l.from-index l.kids.items;
}
