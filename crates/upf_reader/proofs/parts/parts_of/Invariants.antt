use Rattle.std.proofs.Common.{length}
use Rattle.upf_reader.specs.Rows.{command_view}
use Rattle.upf_reader.proofs.PartLemmas.{ArePartsSoFar}
use Rattle.upf_reader.proofs.parts.parts_of.Given as goal

abbrev pub invariant-loop-left : goal.invariant-loop-left
invariant-loop-left l = ArePartsSoFar (command_view l.row) l.words l.parts.items l.left

abbrev pub decreases-loop-left : goal.decreases-loop-left
decreases-loop-left l = length l.left
