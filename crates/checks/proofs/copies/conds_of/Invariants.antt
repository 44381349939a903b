use Rattle.std.proofs.Common.{◌≡◌, ◌++◌, map, drop}
use Rattle.checks.specs.LineFindings.{conds_of}
use Rattle.checks.proofs.copies.conds_of.Given as goal

-- those so far and those that are left are all
abbrev pub invariant-loop-stated : goal.invariant-loop-stated
invariant-loop-stated l = l.conds.items ++ map (λ c. c.cond) (drop l.stated-index l.intent.conds) ≡ conds_of l.intent
