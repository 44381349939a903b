use Rattle.std.proofs.Common.{◌≡◌, ◌++◌, map, option_map, drop}
use Rattle.std.specs.List.{filter_map}
use Rattle.checks.specs.Ends.{ends_of}
use Rattle.checks.specs.Judging.{shown_by, missing_on, findings_of}
use Rattle.checks.specs.Seen.{AreFirstShown}
use Rattle.checks.proofs.judge.findings_of.Given as goal

-- those so far and those of the chains that are left are all
abbrev pub invariant-loop-ends : goal.invariant-loop-ends
invariant-loop-ends l = record {
  all : l.found.items ++ filter_map (λ c. option_map (missing_on l.design c) (shown_by l.intent l.states c)) (map ends_of (drop l.ends-index l.chains))
      ≡ findings_of l.design l.intent l.states (map ends_of l.chains);
  seen : AreFirstShown l.states l.seen;
}
