-- Which scripts are of the first form, beside the form of their lines.
use Rattle.std.specs.Prelude.{ℕ, ◌+◌, ◌==◌, Bool, true, ◌&&◌, nat_le, List, Option, Some, None, option_map, length, map, take}
use Rattle.std.specs.List.{filter_map, list_all, list_any, enumerate_from}
use Rattle.line_forms.specs.declared.script_lines.CommandLine.{CommandLine}
use Rattle.line_forms.specs.declared.script_lines.CommandLine.TheVariants.{SupplyNet, SupplyState, SupplySet, Domain}
use Rattle.line_forms.specs.declared.script_lines.StateWords.{StateWords}
use Rattle.list_defs.specs.Members.{same_name, place_of, all_differ}
use Rattle.form_intent.specs.Script.{DomainNames, nets_made, set_names, domains_made, object_made, states_of, stated, values_of}

abbrev pub is_made : List (List ℕ) → List ℕ → Bool
is_made made name = list_any (same_name name) made

-- whether nothing is named, or it is made
abbrev pub is_made_if_any : List (List ℕ) → Option (List ℕ) → Bool
is_made_if_any made None = true
is_made_if_any made (Some name) = is_made made name

-- Whether a line names only what is there: states a net, sets their nets, domains a set, and the top or an instance
-- in it as their element.
abbrev pub names_known : List (List ℕ) → List (List ℕ) → List (List ℕ) → CommandLine → Bool
names_known instances nets sets (SupplyNet net) = true
names_known instances nets sets (SupplyState net states) = is_made nets net
names_known instances nets sets (SupplySet set power gnd) = is_made nets power && is_made_if_any nets gnd
names_known instances nets sets (Domain domain element primary) = is_made sets primary && is_made_if_any instances element

-- the line of a place names only what lines before it made
abbrev pub line_fits : List (List ℕ) → List CommandLine → ℕ × CommandLine → Bool
line_fits instances commands line =
    let before = take line.0 commands in
    names_known instances (nets_made before) (set_names before) line.1

-- each line names only what lines before it made, and no name is made twice
abbrev pub names_fit : List (List ℕ) → List CommandLine → Bool
names_fit instances commands =
    list_all (line_fits instances commands) (enumerate_from 0 commands) && all_differ same_name (filter_map object_made commands)

-- whether no state of a net is stated twice
abbrev pub states_differ : List CommandLine → List ℕ → Bool
states_differ commands net = all_differ same_name (map (λ (s : StateWords). s.name) (states_of commands net))

-- whether a net has at most 64 values
abbrev pub values_fit : List CommandLine → List ℕ → Bool
values_fit commands net = nat_le (length (values_of (stated commands net))) 64

-- an element as the number of its instance: the top is 0, and those in it are numbered from 1
abbrev pub element_number : List (List ℕ) → Option (List ℕ) → Option ℕ
element_number instances None = Some 0
element_number instances (Some name) = option_map (λ n. n + 1) (place_of (same_name name) instances)

-- the elements of the domains, in order
abbrev pub elements : List (List ℕ) → List CommandLine → List ℕ
elements instances commands = filter_map (λ (d : DomainNames). element_number instances d.element) (domains_made commands)

-- no instance is an element of two domains, and the top is an element of one
abbrev pub elements_fit : List ℕ → Bool
elements_fit elements = all_differ ◌==◌ elements && list_any (◌==◌ 0) elements

-- There are at most 1,000,000 lines. Each line names only what lines before it made, and no name is made twice. There
-- are at most 1,024 nets, no state of a net is stated twice, and no net has more than 64 values. No instance is an
-- element of two domains, and the top is an element of one, so that each instance has a domain.
abbrev pub script_fits : List (List ℕ) → List CommandLine → Bool
script_fits instances commands =
    nat_le (length commands) 1000000 && names_fit instances commands && nat_le (length (nets_made commands)) 1024
    && list_all (states_differ commands) (nets_made commands)
    && list_all (values_fit commands) (nets_made commands)
    && elements_fit (elements instances commands)
