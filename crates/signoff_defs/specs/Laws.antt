-- A sound design with a sound intent has one report.
use Rattle.std.specs.Prelude.{◌≡◌}
use Rattle.pw_defs.specs.declared.design.Design.{Design}
use Rattle.pw_defs.specs.declared.intent.Intent.{Intent}
use Rattle.pw_defs.specs.declared.intent.Want.TheVariants.{Check}
use Rattle.pw_defs.specs.declared.report.Report.{Report}
use Rattle.design_defs.specs.Sound.{IsSoundDesign}
use Rattle.domain_defs.specs.SoundIntent.{IsSoundIntent}
use Rattle.signoff_defs.specs.Reports.{IsReport}

-- two reports on a design with its intent are the same
abbrev pub HasOneReport : Type 0
HasOneReport = (d : Design) (i : Intent) → IsSoundDesign d → IsSoundIntent d i → i.want ≡ Check → (r s : Report) → IsReport d i r → IsReport d i s → r ≡ s
