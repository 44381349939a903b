use Rattle.std.proofs.Common.{◌≡◌, ◌+◌, ◌-◌, ◌*◌, length, get_or}
use Rattle.diagram_defs.specs.Parts.{GrowsBy, IsPartOf}
use Rattle.diagram_defs.proofs.Steps.{AreKidsSo}
use Rattle.state_diagrams.specs.Joins.{joined_set}
use Rattle.state_diagrams.proofs.pool.Pool.+join.Given as goal

abbrev pub decreases-join : goal.decreases-join
decreases-join l = 2 * (length l.self.now.arities - l.level) + 1

abbrev pub decreases-join_kids : goal.decreases-join_kids
decreases-join_kids l = 2 * (length l.self.now.arities - l.level)

abbrev pub invariant-join_kids-loop-v : goal.invariant-join_kids-loop-v
invariant-join_kids-loop-v l = record {
  grows : GrowsBy (IsPartOf (length l.fn.self.arities) l.level (joined_set l.fn.self l.join l.level l.a l.b)) l.fn.self l.self;
  end : l.arity ≡ get_or l.fn.self.arities l.level 0;
  kids : AreKidsSo l.self l.level (joined_set l.fn.self l.join l.level l.a l.b) l.v l.kids.items;
}
