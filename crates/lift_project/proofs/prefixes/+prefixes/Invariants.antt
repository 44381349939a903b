use Rattle.std.proofs.Common.{◌≡◌, ◌+◌, ◌-◌, ◌*◌, length, get_or}
use Rattle.diagram_defs.specs.Parts.{GrowsBy, IsPartOf}
use Rattle.diagram_defs.proofs.Steps.{AreKidsSo}
use Rattle.lift_project.specs.Prefixes.{starts_set, AreFound}
use Rattle.lift_project.proofs.prefixes.+prefixes.Given as goal

abbrev pub decreases-prefixes : goal.decreases-prefixes
decreases-prefixes l = 2 * (length l.into.now.arities - l.level) + 1

abbrev pub decreases-prefix_kids : goal.decreases-prefix_kids
decreases-prefix_kids l = 2 * (length l.into.now.arities - l.level)

abbrev pub invariant-prefix_kids-loop-v : goal.invariant-prefix_kids-loop-v
invariant-prefix_kids-loop-v l = record {
  grows : GrowsBy (IsPartOf (length l.fn.into.arities) l.level (starts_set l.fn.into.arities l.from.nodes l.level l.n)) l.fn.into l.into;
  end : l.arity ≡ get_or l.fn.into.arities l.level 0;
  kids : AreKidsSo l.into l.level (starts_set l.fn.into.arities l.from.nodes l.level l.n) l.v l.kids.items;
  done : AreFound l.from l.into l.done;
}
