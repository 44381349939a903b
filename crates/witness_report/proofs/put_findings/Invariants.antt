use Rattle.std.proofs.Common.{◌≡◌, ◌++◌, take}
use Rattle.std.specs.List.{flat_map}
use Rattle.signoff_defs.specs.ReportText.{finding_text}
use Rattle.witness_report.proofs.put_findings.Given as goal

-- the lines of the findings so far
abbrev pub invariant-loop-finding : goal.invariant-loop-finding
invariant-loop-finding l = l.text ≡ l.fn.text ++ flat_map (finding_text l.visible) (take l.finding-index l.findings)
