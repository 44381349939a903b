use Rattle.chains.proofs.Steps.{AreFirstWalks}
use Rattle.chains.proofs.walking.walks.Given as goal

-- the walks that begin at the bits so far
abbrev pub invariant-loop-at : goal.invariant-loop-at
invariant-loop-at l = AreFirstWalks l.design l.at l.walks
