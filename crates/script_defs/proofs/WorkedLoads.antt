-- The base script loads to its intent.
use Rattle.std.proofs.Common.{◌≡◌, ℕ, ◌<◌, List, [], ◌∷◌, length, Option, None, refl, inl, inr, ap, arith}
use Rattle.std.specs.Prelude.{codes}
use Rattle.pw_defs.specs.declared.intent.Domain.{Domain}
use Rattle.pw_defs.specs.declared.intent.RootList.{RootList}
use Rattle.pw_defs.specs.declared.intent.Want.{Want}
use Rattle.domain_defs.specs.DomainFaults.{AreDomainsOf}
use Rattle.domain_defs.specs.DomainFaults.{HasDomainFault}
use Rattle.domain_defs.proofs.OneDomain.{fault_or_list}
use Rattle.supply_defs.specs.UnitLists.{AreUnitLists}
use Rattle.tcl_words.proofs.WorkedScripts.{pair_script_read}
use Rattle.worked_jobs.specs.Designs.{pair}
use Rattle.worked_jobs.specs.Intents.{pair as pair_intent}
use Rattle.worked_jobs.specs.Lines.{pair_lines}
use Rattle.worked_jobs.specs.Texts.{pair_script}
use Rattle.list_defs.specs.Members.{IsIn}
use Rattle.script_defs.specs.Closing.{Closed, HasNoClosingFault, IsClosingFault}
use Rattle.script_defs.specs.Loads.{IsClosedOf, LoadsTo}
use Rattle.script_defs.proofs.FewRoots.{few_supplies}
use Rattle.script_defs.proofs.Behind.{pair_world}
use Rattle.script_defs.proofs.Fields.{beside, domain_by_elements}
use Rattle.script_defs.proofs.WorkedIntents.{pair_is_intent}
use Rattle.script_defs.proofs.WorkedReading.{base_script_runs}

-- a domain by its elements alone
abbrev by_elements : List ℕ → ℕ → List ℕ → Domain
by_elements name line elements = record {
  name = name;
  unit = 0;
  line = line;
  elements = elements;
  excluded = [];
  primary = record
      { power = 0; ground = None };
  default_iso = None;
}

-- what the closing checks look at
abbrev pub pair_ends : Closed
pair_ends = record {
  script = codes "base.upf";
  want = Want.Check;
  units = pair_intent.units;
  supplies = pair_intent.supplies;
  lists = pair_intent.lists;
  domains = by_elements (codes "PT") 9 (0 ∷ []) ∷ by_elements (codes "PA") 10 (1 ∷ []) ∷ by_elements (codes "PB") 11 (3 ∷ []) ∷ [];
}

pub pair_ends_are : AreUnitLists pair_intent.supplies pair_intent.units pair_intent.lists → IsClosedOf pair pair_world (codes "base.upf") Want.Check pair_ends
pair_ends_are lists = record {
  script_is = refl;
  want_is = refl;
  supplies_are = refl;
  lists_are = lists;
  units_are = (record { inst_is = refl; outer_is = refl; passed_is = refl; ports_are = refl; exports_are = tt }, tt);
  domains_are = beside (domain_by_elements _ _ _ _ refl refl refl refl refl refl refl refl) (beside (domain_by_elements _ _ _ _ refl refl refl refl refl refl refl refl) (beside (domain_by_elements _ _ _ _ refl refl refl refl refl refl refl refl) tt));
}

-- No check refuses the base script, where each instance has its domain.
pub pair_is_closed : (members : List ℕ) → AreDomainsOf pair pair_ends.domains members → HasNoClosingFault pair pair_world pair_ends
pair_is_closed members are _ _ (IsClosingFault.closed_name r u first is) = cc
pair_is_closed members are _ _ (IsClosingFault.unmarked_top r unmarked is) = unmarked
pair_is_closed members are _ _ (IsClosingFault.unstated_port r p unit port name least there listed named is) = least.holds.macro
pair_is_closed members are _ _ (IsClosingFault.no_own_domain r inst path least at is) = least.holds.macro
pair_is_closed members are _ _ (IsClosingFault.without_domain r inst path least at is) = fault_or_list pair pair_ends.domains _ members
    (HasDomainFault.no_domain inst path least at) are
pair_is_closed members are _ _ (IsClosingFault.in_two_domains r p o path least made at is) = are.apart p.0 p.1 least.holds
pair_is_closed members are _ _ (IsClosingFault.without_function r o first is) = cc
pair_is_closed members are _ _ (IsClosingFault.many_roots r many is) = few_supplies pair_intent.supplies (omega arith) many
pair_is_closed members are _ _ (IsClosingFault.many_values r name least is) = by least.holds.list least.holds.is_list.listed least.holds.many
  where
    two : (l m : RootList) → l ≡ m → length m.values ≡ 2 → 64 < length l.values → ⊥
    two l m e n many = let same : length l.values ≡ length m.values = ap (λ x. length x.values) e in absurd (omega arith)

    by : (l : RootList) → IsIn l pair_intent.lists → 64 < length l.values → ⊥
    by l (inl e) many = two l _ e refl many
    by l (inr (inl e)) many = two l _ e refl many
    by l (inr (inr (inl e))) many = two l _ e refl many
    by l (inr (inr (inr no_more))) many = absurd no_more

-- The base script loads to the intent of the two blocks, where the lists of that intent are those of its supplies and domains.
pub base_script_loads : (held : List ℕ → Option (List ℕ)) → AreUnitLists pair_intent.supplies pair_intent.units pair_intent.lists
    → AreDomainsOf pair pair_intent.domains pair_intent.domain_of
    → AreDomainsOf pair pair_ends.domains pair_intent.domain_of
    → LoadsTo pair held (codes "base.upf") pair_script Want.Check pair_intent
base_script_loads held lists members same_members = record {
  world = pair_world;
  last = record { lines = pair_lines; read = pair_script_read; ran = base_script_runs held };
  ends = pair_ends;
  ends_are = pair_ends_are lists;
  none = pair_is_closed pair_intent.domain_of same_members;
  intent = pair_is_intent lists members;
}
