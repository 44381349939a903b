use Rattle.std.proofs.Common.{◌≡◌, length, map, take}
use Rattle.probe.proofs.states.fits.Given as goal

-- the levels so far have as many values as the supplies
abbrev pub invariant-loop-level : goal.invariant-loop-level
invariant-loop-level l = map length (take l.level l.lists) ≡ take l.level l.pool.arities
