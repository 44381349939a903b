use Rattle.std.proofs.Common.{ℕ, List, ◌++◌}
use Rattle.net_bits.specs.Standing.{AreNamesUp}
use Rattle.net_bits.proofs.paths.names_up.Given as goal

abbrev pub invariant-loop-at : goal.invariant-loop-at
invariant-loop-at l = (rest : List ℕ) → AreNamesUp l.rows l.at rest → AreNamesUp l.rows l.n (l.names.items ++ rest)

abbrev pub decreases-loop-at : goal.decreases-loop-at
decreases-loop-at l = l.at
