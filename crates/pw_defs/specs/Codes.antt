-- The exit status of each way to end.
use Rattle.std.specs.Prelude.{ℕ}
use Rattle.pw_defs.specs.declared.status.Status.{Status}
use Rattle.pw_defs.specs.declared.status.Status.TheVariants.{Clean, Findings, Refused, Usage, Bound, Outside, Memory}

abbrev pub code_of : Status → ℕ
code_of Clean = 0
code_of Findings = 1
code_of Refused = 2
code_of Usage = 3
code_of Bound = 4
code_of Outside = 5
code_of Memory = 6
