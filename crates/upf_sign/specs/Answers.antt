-- What is answered of the texts of a library, a netlist and a script.
use Rattle.std.specs.Prelude.{◌≡◌, ◌≢◌, ℕ, ◌≤◌, Bool, true, false, List, [], ◌∷◌}
use Rattle.pw_defs.specs.declared.design.Design.{Design}
use Rattle.pw_defs.specs.declared.intent.Intent.{Intent}
use Rattle.pw_defs.specs.declared.report.Finding.{Finding}
use Rattle.pw_defs.specs.declared.report.Report.{Report as ReportOf}
use Rattle.supply_defs.specs.States.{state_count}
use Rattle.checks.specs.LineFindings.{IsReport, lists_of, legal_of}
use Rattle.signoff_defs.specs.ReportText.{report_text}
use Rattle.checks.specs.Checked.{HasNoLegal, PassesBound}
use Rattle.upf_sign.specs.declared.answers.Answer.{Answer}
use Rattle.upf_sign.specs.declared.answers.Answer.TheVariants.{Report, OtherForm, NoLegal, Bound}
use Rattle.upf_sign.specs.Loaded.{IsLoaded}

abbrev pub has_none : List Finding → Bool
has_none [] = true
has_none (f ∷ fs) = false

-- some state is legal, there aren't too many, and this is the text of the report
pub record IsReported (d : Design) (i : Intent) (text : List ℕ) (clean : Bool) : Type 0 where
  pub report : ReportOf
  pub is_report : IsReport d i report
  pub text_is : text ≡ report_text report
  pub clean_is : clean ≡ has_none report.findings
  pub few : state_count (lists_of i) ≤ 65536
  pub some : legal_of i ≢ []

-- what is answered on a design with its intent
abbrev pub IsJudged : Design → Intent → Answer → Type 0
IsJudged d i (Report text clean) = IsReported d i text clean
IsJudged d i OtherForm = ⊥
IsJudged d i NoLegal = HasNoLegal i
IsJudged d i Bound = PassesBound i

-- the files mean a design with its intent, and this is answered on them
pub record IsAnswerOn (library netlist script top : List ℕ) (answer : Answer) : Type 0 where
  pub design : Design
  pub intent : Intent
  pub loaded : IsLoaded library netlist script top design intent
  pub judged : IsJudged design intent answer

-- no design with an intent is meant
abbrev pub MeanNothing : List ℕ → List ℕ → List ℕ → List ℕ → Type 0
MeanNothing library netlist script top = (d : Design) (i : Intent) → IsLoaded library netlist script top d i → ⊥

-- what is answered of the files with the name of a top
abbrev pub IsAnswer : List ℕ → List ℕ → List ℕ → List ℕ → Answer → Type 0
IsAnswer library netlist script top (Report text clean) = IsAnswerOn library netlist script top (Report text clean)
IsAnswer library netlist script top OtherForm = MeanNothing library netlist script top
IsAnswer library netlist script top NoLegal = IsAnswerOn library netlist script top NoLegal
IsAnswer library netlist script top Bound = IsAnswerOn library netlist script top Bound
