use Rattle.std.proofs.Common.{◌≡◌, ◌++◌, map, drop}
use Rattle.checks.specs.LineFindings.{lists_of}
use Rattle.checks.proofs.copies.lists_of.Given as goal

-- those so far and those that are left are all
abbrev pub invariant-loop-root : goal.invariant-loop-root
invariant-loop-root l = l.lists.items ++ map (λ r. r.values) (drop l.root-index l.intent.lists) ≡ lists_of l.intent
