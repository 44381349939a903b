-- The intent that a script of the first form means.
use Rattle.std.specs.Prelude.{◌≡◌, ℕ, zero, suc, ◌==◌, List, [], ◌∷◌, Option, Some, None, map, unwrap_or, option_to_list}
use Rattle.std.specs.List.{filter_map, enumerate_from}
use Rattle.pw_defs.specs.declared.intent.Domain.{Domain}
use Rattle.pw_defs.specs.declared.intent.Intent.{Intent}
use Rattle.pw_defs.specs.declared.intent.SupplySet.{SupplySet}
use Rattle.pw_defs.specs.declared.intent.Unit.{Unit as IntentUnit}
use Rattle.pw_defs.specs.declared.intent.Want.TheVariants.{Check}
use Rattle.line_forms.specs.declared.script_lines.CommandLine.{CommandLine}
use Rattle.list_defs.specs.Members.{place_of}
use Rattle.list_defs.specs.Orders.{name_cmp, IsPutInOrder}
use Rattle.form_intent.specs.Script.{DomainNames, nets_made, sets_made, domains_made, supply_of, root_list, cond_of, set_named}
use Rattle.form_intent.specs.Fits.{element_number, elements}

-- the instance of the top in which an instance stands, which may be itself; the top stands in itself
abbrev pub anchor : ℕ → Option ℕ → ℕ
anchor inst None = inst
anchor inst (Some zero) = inst
anchor inst (Some (suc p)) = suc p

-- the domain of an instance by the elements of the domains: the one of which it is the element, or else the top's
abbrev pub domain_at : List ℕ → ℕ → ℕ
domain_at elements inst = unwrap_or (place_of (◌==◌ inst) elements) (unwrap_or (place_of (◌==◌ 0) elements) 0)

-- the domain of an instance of the top, or of an instance in one
abbrev pub domain_for : List ℕ → ℕ × Option ℕ → ℕ
domain_for elements inst = domain_at elements (anchor inst.0 inst.1)

-- a domain with its one element, where each name of a set stands for one
abbrev pub domain_with : (List ℕ → SupplySet) → List (List ℕ) → DomainNames → Domain
domain_with named instances d = record {
  name = d.domain;
  unit = 0;
  line = d.line;
  elements = option_to_list (element_number instances d.element);
  excluded = [];
  primary = named d.primary;
  default_iso = None;
}

abbrev pub top_unit : IntentUnit
top_unit = record { inst = 0; outer = None; passed = 0; ports = []; exports = [] }

abbrev pub supply_names : Intent → List (List ℕ)
supply_names i = map (λ s. s.name) i.supplies

-- The intent of a script, over the names of the instances in the top and the parents of all instances. The supplies
-- stand in order of their names.
pub record IsIntentOf (commands : List CommandLine) (instances : List (List ℕ)) (parents : List (Option ℕ)) (i : Intent) : Type 0 where
  pub order : IsPutInOrder name_cmp (nets_made commands) (supply_names i)
  pub supplies : i.supplies ≡ map (supply_of commands) (supply_names i)
  pub lists : i.lists ≡ map (root_list commands) (enumerate_from 0 (supply_names i))
  pub conds : i.conds ≡ filter_map (cond_of commands) (enumerate_from 0 (supply_names i))
  pub domains : i.domains ≡ map (domain_with (set_named (supply_names i) (sets_made commands)) instances) (domains_made commands)
  pub domain_of : i.domain_of ≡ map (domain_for (elements instances commands)) (enumerate_from 0 parents)
  pub want : i.want ≡ Check
  pub units : i.units ≡ top_unit ∷ []
  pub strategies : i.strategies ≡ []
  pub cell_sets : i.cell_sets ≡ []
  pub port_sets : i.port_sets ≡ []
