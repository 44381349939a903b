use Rattle.std.proofs.Common.{◌≡◌, ℕ, ◌<◌, get_or}
use Rattle.state_diagrams.proofs.pool.has_kid.Given as goal

abbrev pub invariant-loop-kid : goal.invariant-loop-kid
invariant-loop-kid l = (v : ℕ) → v < l.kid-index → get_or l.kids v 0 ≡ 0
