use Rattle.std.proofs.Common.{◌≡◌, ◌++◌, map, drop}
use Rattle.checks.specs.LineFindings.{visible_of}
use Rattle.checks.proofs.copies.visible_of.Given as goal

-- those so far and those that are left are all
abbrev pub invariant-loop-supply : goal.invariant-loop-supply
invariant-loop-supply l = l.names ++ map (λ s. s.name) (drop l.supply-index l.intent.supplies) ≡ visible_of l.intent
