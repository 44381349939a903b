use Rattle.std.proofs.Common.{◌<◌, ℕ}
use Rattle.design_paths.specs.BitNames.{HasNoBitFrom}
use Rattle.design_paths.proofs.bits.bit_named.Given as goal

-- no bit's name has its bracket at a place so far
abbrev pub invariant-loop-at : goal.invariant-loop-at
invariant-loop-at l = (k : ℕ) → k < l.at → HasNoBitFrom l.design l.inst l.name k
