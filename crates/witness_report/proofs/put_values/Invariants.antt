use Rattle.std.proofs.Common.{◌≡◌, ◌++◌, take}
use Rattle.signoff_defs.specs.ReportText.{values_text}
use Rattle.witness_report.proofs.put_values.Given as goal

-- the text of the values so far
abbrev pub invariant-loop-value : goal.invariant-loop-value
invariant-loop-value l = l.text ≡ l.fn.text ++ values_text (take l.value-index l.values)
