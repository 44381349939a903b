-- The lines so far are a body's.
use Rattle.std.proofs.Common.{length, ◌-◌}
use Rattle.script_lines.proofs.BlockLemmas.{IsBodySoFar}
use Rattle.script_lines.proofs.blocks.end_of_model.Given as goal

abbrev pub invariant-loop-to : goal.invariant-loop-to
invariant-loop-to l = IsBodySoFar l.lines l.from l.to

abbrev pub decreases-loop-to : goal.decreases-loop-to
decreases-loop-to l = length l.lines - l.to
