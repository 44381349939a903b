-- The names of what lines of a script make.
use Rattle.std.specs.Prelude.{◌≡◌, ℕ, Bool, false, ◌||◌, List, ◌++◌, Option, Some, None, map, option_to_list}
use Rattle.std.specs.List.{filter_map}
use Rattle.line_forms.specs.declared.script_lines.CommandLine.{CommandLine}
use Rattle.line_forms.specs.declared.script_lines.CommandLine.TheVariants.{SupplyNet, SupplyState, SupplySet, Domain}
use Rattle.form_intent.specs.declared.made.Made.{Made}
use Rattle.form_intent.specs.Script.{SetNames, net_made, set_made, nets_made, set_names}
use Rattle.form_intent.specs.Fits.{is_made}

abbrev pub domain_named : CommandLine → Option (List ℕ)
domain_named (SupplyNet net) = None
domain_named (SupplyState net states) = None
domain_named (SupplySet set power gnd) = None
domain_named (Domain domain element primary) = Some domain

-- these are the nets, the sets and the domains that the lines make
pub record IsMadeBy (commands : List CommandLine) (made : Made) : Type 0 where
  pub nets : made.nets ≡ nets_made commands
  pub sets : made.sets ≡ set_names commands
  pub domains : made.domains ≡ filter_map domain_named commands

-- what a line makes comes to what was made
pub record Gains (command : CommandLine) (old new : Made) : Type 0 where
  pub nets : new.nets ≡ old.nets ++ option_to_list (net_made command)
  pub sets : new.sets ≡ old.sets ++ map (λ (s : SetNames). s.set) (option_to_list (set_made command))
  pub domains : new.domains ≡ old.domains ++ option_to_list (domain_named command)

-- whether a net, a set or a domain has the name
abbrev pub is_taken : Made → List ℕ → Bool
is_taken made name = is_made made.nets name || is_made made.sets name || is_made made.domains name

-- whether what a line makes has a name that is taken
abbrev pub is_taken_if_any : Made → Option (List ℕ) → Bool
is_taken_if_any made None = false
is_taken_if_any made (Some name) = is_taken made name
