use Rattle.std.proofs.Common.{◌≡◌, ◌+◌, ◌-◌, ◌*◌, length, get_or}
use Rattle.diagram_defs.specs.Parts.{GrowsBy, IsPartOf}
use Rattle.diagram_defs.proofs.Steps.{AreKidsSo}
use Rattle.state_meets.specs.Walks.{walk_set}
use Rattle.state_meets.specs.Gathered.{begun_of}
use Rattle.state_meets.specs.Memos.{IsMemo}
use Rattle.state_meets.proofs.walks.+walk.Given as goal

abbrev pub decreases-walk : goal.decreases-walk
decreases-walk l = 2 * (length l.pool.now.arities - l.tuple.level) + 1

abbrev pub decreases-walk_kids : goal.decreases-walk_kids
decreases-walk_kids l = 2 * (length l.pool.now.arities - l.tuple.now.level)

abbrev pub invariant-walk_kids-loop-v : goal.invariant-walk_kids-loop-v
invariant-walk_kids-loop-v l = record {
  grows : GrowsBy (IsPartOf (length l.fn.pool.arities) l.tuple.level (walk_set l.fn.pool l.plan.which (begun_of l.plan) l.tuple.level l.tuple.numbers.items)) l.fn.pool l.pool;
  end : l.arity ≡ get_or l.fn.pool.arities l.tuple.level 0;
  kids : AreKidsSo l.pool l.tuple.level (walk_set l.fn.pool l.plan.which (begun_of l.plan) l.tuple.level l.tuple.numbers.items) l.v l.kids.items;
  memo : IsMemo l.pool l.plan.which (begun_of l.plan) l.memo;
}
