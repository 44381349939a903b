use Rattle.std.proofs.Common.{◌<◌, ℕ}
use Rattle.net_names.specs.Marks.{IsFreeAt}
use Rattle.net_names.proofs.fronts.goes_on.Given as goal

abbrev pub invariant-loop-at : goal.invariant-loop-at
invariant-loop-at l = (k : ℕ) → k < l.at → IsFreeAt l.modules.symbols l.marks l.stamp l.byte l.name k
