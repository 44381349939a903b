-- The form of a script, and how its commands are spelled.
use Rattle.std.specs.Prelude.{◌≡◌, ℕ, ◌<◌, List, [], ◌∷◌, length, codes, Option, Some, None, IfSome}
use Rattle.std.specs.List.{concat, flat_map, AllByRecursion}
use Rattle.pw_defs.specs.declared.values.Value.{Value}
use Rattle.pw_defs.specs.declared.values.Value.TheVariants.{Off, On}
use Rattle.text_defs.specs.Volts.{IsVolts}
use Rattle.line_forms.specs.Names.{IsId}
use Rattle.line_forms.specs.Lines.{line}
use Rattle.line_forms.specs.declared.script_lines.StateWords.{StateWords}
use Rattle.line_forms.specs.declared.script_lines.CommandLine.{CommandLine}
use Rattle.line_forms.specs.declared.script_lines.CommandLine.TheVariants.{SupplyNet, SupplyState, SupplySet, Domain}

abbrev pub state_text : StateWords → List ℕ
state_text state = concat (codes " -state {" ∷ state.name ∷ codes " " ∷ state.word ∷ codes "}" ∷ [])

abbrev pub ground_text : Option (List ℕ) → List ℕ
ground_text None = []
ground_text (Some net) = concat (codes " -function {ground " ∷ net ∷ codes "}" ∷ [])

-- the whole design is written as a point
abbrev pub element_text : Option (List ℕ) → List ℕ
element_text None = codes "."
element_text (Some inst) = inst

abbrev pub command_text : CommandLine → List ℕ
command_text (SupplyNet net) = line (codes "create_supply_net " ∷ net ∷ [])
command_text (SupplyState net states) = line (codes "add_supply_state " ∷ net ∷ flat_map state_text states ∷ [])
command_text (SupplySet set power return_net) = line (codes "create_supply_set " ∷ set ∷ codes " -function {power " ∷ power ∷ codes "}" ∷ ground_text return_net ∷ [])
command_text (Domain domain element primary) =
    line (codes "create_power_domain " ∷ domain ∷ codes " -elements {" ∷ element_text element ∷ codes "} -supply {primary " ∷ primary ∷ codes "}" ∷ [])

abbrev pub script_text : List CommandLine → List ℕ
script_text commands = flat_map command_text commands

-- the word of a state reads as its value
abbrev pub ReadsAs : List ℕ → Value → Type 0
ReadsAs word Off = word ≡ codes "off"
ReadsAs word (On v) = IsVolts word v

pub record IsState (state : StateWords) : Type 0 where
  pub name : IsId state.name
  pub value : ReadsAs state.word state.value

-- names are names, and a supply is given at least one state
abbrev pub IsCommand : CommandLine → Type 0
IsCommand (SupplyNet net) = IsId net
IsCommand (SupplyState net states) = IsId net × (0 < length states) × AllByRecursion IsState states
IsCommand (SupplySet set power return_net) = IsId set × IsId power × IfSome return_net IsId
IsCommand (Domain domain element primary) = IsId domain × IfSome element IsId × IsId primary

abbrev pub AreCommands : List CommandLine → Type 0
AreCommands commands = AllByRecursion IsCommand commands
