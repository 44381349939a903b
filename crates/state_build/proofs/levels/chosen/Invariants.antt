use Rattle.std.proofs.Common.{length}
use Rattle.diagram_defs.specs.Parts.{GrowsBy, IsPartOf}
use Rattle.diagram_defs.proofs.Steps.{AreKidsSo}
use Rattle.state_build.specs.ValueTests.{chosen_set}
use Rattle.state_build.proofs.levels.chosen.Given as goal

abbrev pub invariant-loop-value : goal.invariant-loop-value
invariant-loop-value l = record {
  grows : GrowsBy (IsPartOf (length l.fn.pool.arities) l.level (chosen_set l.fn.pool.arities l.level l.values l.test)) l.fn.pool l.pool;
  kids : AreKidsSo l.pool l.level (chosen_set l.fn.pool.arities l.level l.values l.test) l.value-index l.kids.items;
}
