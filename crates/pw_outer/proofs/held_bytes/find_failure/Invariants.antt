use Rattle.std.proofs.Common.{◌≡◌, drop}
use Rattle.pw_outer.specs.Kinds.{failure_of}
use Rattle.pw_outer.proofs.held_bytes.find_failure.Given as goal

abbrev pub invariant-loop-at : goal.invariant-loop-at
invariant-loop-at l = failure_of (drop l.at-index l.failing) l.call ≡ failure_of l.failing l.call
