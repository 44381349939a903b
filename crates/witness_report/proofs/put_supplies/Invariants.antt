use Rattle.std.proofs.Common.{◌≡◌, ◌++◌, drop}
use Rattle.std.specs.List.{zip}
use Rattle.signoff_defs.specs.ReportText.{supplies_text}
use Rattle.witness_report.proofs.put_supplies.Given as goal

-- the text so far and that of the supplies that are left make the whole
abbrev pub invariant-loop-at : goal.invariant-loop-at
invariant-loop-at l = l.text ++ supplies_text (zip (drop l.at l.names) (drop l.at l.values)) ≡ l.fn.text ++ supplies_text (zip l.names l.values)
