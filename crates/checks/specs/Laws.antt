-- There is one report.
use Rattle.std.specs.Prelude.{◌≡◌}
use Rattle.pw_defs.specs.declared.design.Design.{Design}
use Rattle.pw_defs.specs.declared.intent.Intent.{Intent}
use Rattle.pw_defs.specs.declared.report.Report.{Report}
use Rattle.checks.specs.LineFindings.{IsReport}

-- two reports on a design with its intent are the same
abbrev pub HasOneReport : Type 0
HasOneReport = (d : Design) (i : Intent) (r s : Report) → IsReport d i r → IsReport d i s → r ≡ s
