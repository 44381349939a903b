use Rattle.std.proofs.Common.{◌≤◌, length}
use Rattle.script_world.proofs.DotLemmas.{HasNoDotFrom}
use Rattle.script_world.proofs.handles.last_dot.Given as goal

abbrev pub invariant-loop-end : goal.invariant-loop-end
invariant-loop-end l = (l.end ≤ length l.name) × HasNoDotFrom l.name l.end

abbrev pub decreases-loop-end : goal.decreases-loop-end
decreases-loop-end l = l.end
