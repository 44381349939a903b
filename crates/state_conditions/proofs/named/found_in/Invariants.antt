use Rattle.std.proofs.Common.{take}
use Rattle.state_conditions.specs.Keys.{AreFound}
use Rattle.state_conditions.proofs.named.found_in.Given as goal

abbrev pub invariant-loop-number : goal.invariant-loop-number
invariant-loop-number l = AreFound (take l.number l.states) l.found
