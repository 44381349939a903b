use Rattle.std.proofs.Common.{◌≤◌, length}
use Rattle.diagram_defs.specs.Diagrams.{IsNumberFor, member}
use Rattle.diagram_defs.specs.Parts.{GrowsBy, IsPartOf}
use Rattle.diagram_defs.specs.Sets.{widened_set}
use Rattle.state_diagrams.proofs.pool.Pool.widen.Given as goal

abbrev pub invariant-loop-at : goal.invariant-loop-at
invariant-loop-at l = record {
  above : l.level ≤ l.at;
  below : l.at ≤ l.from;
  grows : GrowsBy (IsPartOf (length l.fn.self.arities) l.level (widened_set l.fn.self l.level l.from (member l.fn.self.nodes l.fn.n))) l.fn.self l.self;
  number : IsNumberFor l.self l.at (widened_set l.fn.self l.at l.from (member l.fn.self.nodes l.fn.n)) l.n;
}

abbrev pub decreases-loop-at : goal.decreases-loop-at
decreases-loop-at l = l.at
