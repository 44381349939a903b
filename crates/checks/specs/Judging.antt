-- The findings as a list: for each chain what the first legal state that shows something makes.
use Rattle.std.specs.Prelude.{List, Option, Some, false, option_map, option_and_then}
use Rattle.std.specs.List.{find, filter_map}
use Rattle.pw_defs.specs.declared.chains.Kind.TheVariants.{IsoMissing}
use Rattle.pw_defs.specs.declared.design.Design.{Design}
use Rattle.pw_defs.specs.declared.intent.Intent.{Intent}
use Rattle.pw_defs.specs.declared.report.Finding.{Finding}
use Rattle.pw_defs.specs.declared.values.State.{State}
use Rattle.checks.specs.LineChains.{Ends}
use Rattle.supply_defs.specs.Conditions.{holds}
use Rattle.supply_defs.specs.States.{value_in}
use Rattle.checks.specs.LineWatches.{watched}
use Rattle.checks.specs.LineFindings.{bit_name}

-- the first of the states that shows what is watched on a chain
abbrev pub shown_by : Intent → List State → Ends → Option State
shown_by i states c = option_and_then (λ cond. find (λ s. holds (value_in s.values) cond) states) (watched i c)

-- isolation is missing on a chain, as a state shows
abbrev pub missing_on : Design → Ends → State → Finding
missing_on d c s = record {
  kind = IsoMissing;
  receiver = bit_name d c.receiver_bit;
  driver = bit_name d c.driver_bit;
  forced = false;
  witness = Some s;
}

abbrev pub findings_of : Design → Intent → List State → List Ends → List Finding
findings_of d i states cs = filter_map (λ c. option_map (missing_on d c) (shown_by i states c)) cs
