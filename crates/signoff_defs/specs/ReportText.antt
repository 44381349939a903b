-- The text of a report, byte by byte. Each line ends with a newline.
use Rattle.std.specs.Prelude.{◌≡◌, ℕ, Bool, true, false, List, [], ◌∷◌, ◌++◌, Option, Some, None, IfSome, length, codes, decimal}
use Rattle.std.specs.List.{flat_map, zip}
use Rattle.pw_defs.specs.declared.chains.Kind.{Kind}
use Rattle.pw_defs.specs.declared.chains.Kind.TheVariants.{IsoMissing, IsoRedundant, IsoSupply, IsoIntent, LsMissing, LsRedundant, LsSupply, LsIntent, Tie}
use Rattle.pw_defs.specs.declared.report.Boundary.{Boundary}
use Rattle.pw_defs.specs.declared.report.Finding.{Finding}
use Rattle.pw_defs.specs.declared.report.Report.{Report}
use Rattle.pw_defs.specs.declared.values.State.{State}
use Rattle.pw_defs.specs.declared.values.Value.{Value}
use Rattle.text_defs.specs.Text.{value_text}

abbrev pub kind_text : Kind → List ℕ
kind_text IsoMissing = codes "ISO_MISSING"
kind_text IsoRedundant = codes "ISO_REDUNDANT"
kind_text IsoSupply = codes "ISO_SUPPLY"
kind_text IsoIntent = codes "ISO_INTENT"
kind_text LsMissing = codes "LS_MISSING"
kind_text LsRedundant = codes "LS_REDUNDANT"
kind_text LsSupply = codes "LS_SUPPLY"
kind_text LsIntent = codes "LS_INTENT"
kind_text Tie = codes "TIE"

-- a blank and a value, for each value
abbrev pub values_text : List Value → List ℕ
values_text values = flat_map (λ v. 32 ∷ value_text v) values

-- boundary INSTANCE PORT VALUE ..
abbrev pub boundary_text : Boundary → List ℕ
boundary_text b = codes "boundary " ++ b.inst ++ 32 ∷ b.port ++ values_text b.values ++ 10 ∷ []

-- NAME=VALUE, with a blank in front, for each supply
abbrev pub supplies_text : List (List ℕ × Value) → List ℕ
supplies_text pairs = flat_map (λ (p : List ℕ × Value). 32 ∷ p.0 ++ 61 ∷ value_text p.1) pairs

-- the line of a state, which names the visible supplies in order
abbrev pub witness_text : List (List ℕ) → Option State → List ℕ
witness_text visible None = []
witness_text visible (Some state) = codes "  state" ++ supplies_text (zip visible state.values) ++ 10 ∷ []

-- the witness, where there is one, has a value for each visible supply
abbrev pub HasWholeWitness : List (List ℕ) → Finding → Type 0
HasWholeWitness visible f = IfSome f.witness (λ state. length state.values ≡ length visible)

abbrev pub forced_text : Bool → List ℕ
forced_text true = codes " forced"
forced_text false = []

-- KIND RECEIVER from DRIVER, and whether it is forced
abbrev pub finding_line : Finding → List ℕ
finding_line f = kind_text f.kind ++ 32 ∷ f.receiver ++ codes " from " ++ f.driver ++ forced_text f.forced ++ 10 ∷ []

-- the line of a finding, and that of its state
abbrev pub finding_text : List (List ℕ) → Finding → List ℕ
finding_text visible f = finding_line f ++ witness_text visible f.witness

-- a word, a number and a newline
abbrev pub count_text : List ℕ → ℕ → List ℕ
count_text word n = word ++ 32 ∷ decimal n ++ 10 ∷ []

unfoldable pub report_text : Report → List ℕ
report_text r =
    codes "upfsign report 1\ntop " ++ r.top ++ 10 ∷ []
    ++ count_text (codes "chains") r.chains
    ++ count_text (codes "passed") r.passed
    ++ flat_map boundary_text r.boundaries
    ++ flat_map (finding_text r.visible) r.findings
    ++ count_text (codes "findings") (length r.findings)
