-- The elements of domains, line by line.
use Rattle.std.specs.Prelude.{ℕ, ◌==◌, Bool, false, List, Option, Some, None}
use Rattle.std.specs.List.{list_any}
use Rattle.line_forms.specs.declared.script_lines.CommandLine.{CommandLine}
use Rattle.line_forms.specs.declared.script_lines.CommandLine.TheVariants.{SupplyNet, SupplyState, SupplySet, Domain}
use Rattle.form_intent.specs.Fits.{element_number}

-- the element of the domain that a line makes
abbrev pub line_element : List (List ℕ) → CommandLine → Option ℕ
line_element instances (SupplyNet net) = None
line_element instances (SupplyState net states) = None
line_element instances (SupplySet set power gnd) = None
line_element instances (Domain domain element primary) = element_number instances element

-- whether an element is one of these
abbrev pub is_among : List ℕ → Option ℕ → Bool
is_among elements None = false
is_among elements (Some e) = list_any (◌==◌ e) elements
