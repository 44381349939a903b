use Rattle.std.proofs.Common.{length}
use Rattle.state_terms.proofs.FirstTokens.{IsLeftOf}
use Rattle.state_terms.proofs.words.behind_white.Given as goal

-- what is left has the words and marks of the whole text
abbrev pub invariant-loop-byte : goal.invariant-loop-byte
invariant-loop-byte l = IsLeftOf l.rest l.text

abbrev pub decreases-loop-byte : goal.decreases-loop-byte
decreases-loop-byte l = length l.rest
