use Rattle.std.proofs.Common.{ℕ, ◌+◌, ◌*◌, length}
use Rattle.state_terms.specs.declared.terms.Join.{Join}
use Rattle.state_terms.specs.declared.terms.Join.TheVariants.{Both, Either}
use Rattle.state_terms.specs.Parts.{language_of, mark_of, IsPart}
use Rattle.state_terms.proofs.PartsInOrder.{SoFar}
use Rattle.state_terms.proofs.terms.+terms.Given as goal

-- parts joined by `||` hold those joined by `&&`
abbrev pub rank : Join → ℕ
rank Both = 0
rank Either = 1

abbrev pub decreases-negated : goal.decreases-negated
decreases-negated l = 6 * l.depth

abbrev pub decreases-grouped : goal.decreases-grouped
decreases-grouped l = 6 * l.depth

abbrev pub decreases-one : goal.decreases-one
decreases-one l = 6 * l.depth + 1

abbrev pub decreases-part : goal.decreases-part
decreases-part l = 6 * l.depth + 2 + 2 * rank l.join

abbrev pub decreases-parts : goal.decreases-parts
decreases-parts l = 6 * l.depth + 3 + 2 * rank l.join

-- the parts so far
abbrev pub invariant-parts-loop-further : goal.invariant-parts-loop-further
invariant-parts-loop-further l = SoFar (IsPart (language_of l.speech) l.join l.depth) (mark_of l.join) l.text l.terms l.rest

abbrev pub decreases-parts-loop-further : goal.decreases-parts-loop-further
decreases-parts-loop-further l = length l.rest
