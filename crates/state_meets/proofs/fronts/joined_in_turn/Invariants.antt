use Rattle.std.proofs.Common.{take}
use Rattle.diagram_defs.specs.Locals.{IsLocalFor}
use Rattle.diagram_defs.specs.Parts.{GrowsBy}
use Rattle.state_meets.specs.Gathered.{gathered_set}
use Rattle.state_meets.specs.Fronts.{IsPartOfFront}
use Rattle.state_meets.proofs.fronts.joined_in_turn.Given as goal

-- the first ones are joined
abbrev pub invariant-loop-set : goal.invariant-loop-set
invariant-loop-set l = record {
  grows : GrowsBy (IsPartOfFront l.fn.pool l.which l.sets) l.fn.pool l.pool;
  front : IsLocalFor l.pool (gathered_set l.fn.pool l.which (take l.set-index l.sets)) l.front;
}
