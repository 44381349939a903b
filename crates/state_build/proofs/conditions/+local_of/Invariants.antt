use Rattle.std.proofs.Common.{take}
use Rattle.diagram_defs.specs.Parts.{GrowsBy}
use Rattle.state_build.specs.Built.{joined_cond}
use Rattle.state_build.specs.Entries.{IsPartOfEntry}
use Rattle.state_build.specs.Joined.{AreBuilt}
use Rattle.state_build.proofs.conditions.+local_of.Given as goal

-- the sets of the first ones of the parts are there
abbrev pub invariant-joined_of-loop-part : goal.invariant-joined_of-loop-part
invariant-joined_of-loop-part l = record {
  grows : GrowsBy (IsPartOfEntry l.fn.pool.arities l.lists (joined_cond l.which l.parts)) l.fn.pool l.pool;
  sets : AreBuilt l.pool l.fn.pool.arities l.lists (take l.part-index l.parts) l.sets.items;
}
