-- What the lines of a script make: supply nets with their values, supply sets and domains.
use Rattle.std.specs.Prelude.{ℕ, List, [], ◌∷◌, Option, Some, None, map, option_map, option_and_then, slice_get, unwrap_or, if◌then◌else◌}
use Rattle.std.specs.Ordering.{match_ordering}
use Rattle.std.specs.List.{filter_map, flat_map, enumerate_from}
use Rattle.pw_defs.specs.Values.{value_cmp}
use Rattle.pw_defs.specs.declared.conditions.Cond.TheVariants.{Any, Is}
use Rattle.pw_defs.specs.declared.conditions.UnitCond.{UnitCond}
use Rattle.pw_defs.specs.declared.intent.RootList.{RootList}
use Rattle.pw_defs.specs.declared.intent.SupplySet.{SupplySet}
use Rattle.pw_defs.specs.declared.supplies.Supply.{Supply}
use Rattle.pw_defs.specs.declared.supplies.SupplyKind.TheVariants.{Net}
use Rattle.pw_defs.specs.declared.values.Value.{Value}
use Rattle.pw_defs.specs.declared.values.Value.TheVariants.{Off, On}
use Rattle.line_forms.specs.declared.script_lines.CommandLine.{CommandLine}
use Rattle.line_forms.specs.declared.script_lines.CommandLine.TheVariants.{SupplyNet, SupplyState, SupplySet as SetLine, Domain as DomainLine}
use Rattle.line_forms.specs.declared.script_lines.StateWords.{StateWords}
use Rattle.list_defs.specs.Members.{same_name, place_of}

-- a set as its line names it: the power and the ground
pub record SetNames : Type 0 where
  pub set : List ℕ
  pub power : List ℕ
  pub ground : Option (List ℕ)

-- a domain as its line names it, with the number of the line
pub record DomainNames : Type 0 where
  pub domain : List ℕ
  pub line : ℕ
  pub element : Option (List ℕ)
  pub primary : List ℕ

abbrev pub net_made : CommandLine → Option (List ℕ)
net_made (SupplyNet net) = Some net
net_made (SupplyState net states) = None
net_made (SetLine set power gnd) = None
net_made (DomainLine domain element primary) = None

abbrev pub set_made : CommandLine → Option SetNames
set_made (SupplyNet net) = None
set_made (SupplyState net states) = None
set_made (SetLine set power gnd) = Some (record { set = set; power = power; ground = gnd })
set_made (DomainLine domain element primary) = None

abbrev pub domain_made : ℕ × CommandLine → Option DomainNames
domain_made (line, SupplyNet net) = None
domain_made (line, SupplyState net states) = None
domain_made (line, SetLine set power gnd) = None
domain_made (line, DomainLine domain element primary) = Some (record { domain = domain; line = line; element = element; primary = primary })

-- the object that a line makes, by its name: nets, sets and domains share one name space
abbrev pub object_made : CommandLine → Option (List ℕ)
object_made (SupplyNet net) = Some net
object_made (SupplyState net states) = None
object_made (SetLine set power gnd) = Some set
object_made (DomainLine domain element primary) = Some domain

-- the states that a line states on a net
abbrev pub states_on : List ℕ → CommandLine → List StateWords
states_on net (SupplyNet made) = []
states_on net (SupplyState named states) = if same_name net named then states else []
states_on net (SetLine set power gnd) = []
states_on net (DomainLine domain element primary) = []

abbrev pub nets_made : List CommandLine → List (List ℕ)
nets_made commands = filter_map net_made commands

abbrev pub sets_made : List CommandLine → List SetNames
sets_made commands = filter_map set_made commands

abbrev pub set_names : List CommandLine → List (List ℕ)
set_names commands = map (λ (s : SetNames). s.set) (sets_made commands)

abbrev pub domains_made : List CommandLine → List DomainNames
domains_made commands = filter_map domain_made (enumerate_from 1 commands)

-- the states that lines state on a net, in order
abbrev pub states_of : List CommandLine → List ℕ → List StateWords
states_of commands net = flat_map (states_on net) commands

-- their values
abbrev pub stated : List CommandLine → List ℕ → List Value
stated commands net = map (λ (s : StateWords). s.value) (states_of commands net)

-- a value put into a rising list, once
abbrev pub put_value : Value → List Value → List Value
put_value v [] = v ∷ []
put_value v (w ∷ ws) = match_ordering (value_cmp v w) (v ∷ w ∷ ws) (w ∷ ws) (w ∷ put_value v ws)

abbrev pub put_values : List Value → List Value → List Value
put_values [] into = into
put_values (v ∷ vs) into = put_values vs (put_value v into)

-- The values that a net may have: off and what is stated on it, in rising order; off and 0 V where nothing is.
abbrev pub values_of : List Value → List Value
values_of [] = Off ∷ On 0 ∷ []
values_of (v ∷ vs) = put_values (v ∷ vs) (Off ∷ [])

-- the supply of a net on which these values are stated
abbrev pub supply_with : List ℕ → List Value → Supply
supply_with net values = record {
  name = net;
  unit = 0;
  kind = Net;
  feeder = None;
  inputs = [];
  said = map (λ v. record { unit = 0; value = v }) values;
}

abbrev pub supply_of : List CommandLine → List ℕ → Supply
supply_of commands net = supply_with net (stated commands net)

-- the values of the supply of a number, on which these values are stated
abbrev pub list_with : ℕ × List Value → RootList
list_with said = record { unit = 0; root = said.0; values = values_of said.1 }

abbrev pub root_list : List CommandLine → ℕ × List ℕ → RootList
root_list commands net = list_with (net.0, stated commands net.1)

-- a supply on which values are stated has one of them
abbrev pub cond_with : ℕ × List Value → Option UnitCond
cond_with (supply, []) = None
cond_with (supply, v ∷ vs) = Some (record { unit = 0; cond = Any (map (λ w. Is supply w) (v ∷ vs)) })

abbrev pub cond_of : List CommandLine → ℕ × List ℕ → Option UnitCond
cond_of commands net = cond_with (net.0, stated commands net.1)

-- the number of a supply, which is its place in the list of nets
abbrev pub supply_named : List (List ℕ) → List ℕ → ℕ
supply_named nets name = unwrap_or (place_of (same_name name) nets) 0

-- the set of a name, by the numbers of its supplies
abbrev pub set_numbers : List (List ℕ) → SetNames → SupplySet
set_numbers nets s = record { power = supply_named nets s.power; ground = option_map (supply_named nets) s.ground }

abbrev pub no_set : SupplySet
no_set = record { power = 0; ground = None }

abbrev pub set_named : List (List ℕ) → List SetNames → List ℕ → SupplySet
set_named nets sets name =
    unwrap_or (option_map (set_numbers nets) (option_and_then (slice_get sets) (place_of (λ (s : SetNames). same_name name s.set) sets))) no_set
