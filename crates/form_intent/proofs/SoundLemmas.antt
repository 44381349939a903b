-- What the parts of an intent owe each other.
use Rattle.std.proofs.Common.{◌≡◌, ℕ, ◌+◌, ◌<◌, ◌≤◌, true, ◌&&◌, List, [], ◌∷◌, Option, Some, None, length, map, IfSome, option_map, slice_get, unwrap_or, refl, ap, subst, ◌∙◌, arith}
use Rattle.std.proofs.lemmas.Bool.{lt-ltb}
use Rattle.std.proofs.lemmas.List.{length-map}
use Rattle.std.proofs.lemmas.List.Elements.{All-from_recursion, All-same}
use Rattle.std.proofs.lemmas.List.FromFn.{length-enumerate_from}
use Rattle.std.proofs.lemmas.List.Sorted.{length_permutation}
use Rattle.std.specs.List.{AllByRecursion, cons_option, enumerate_from, filter_map, list_all}
use Rattle.std.specs.Option.{option_and_then}
use Rattle.pw_defs.specs.Values.{value_cmp}
use Rattle.pw_defs.specs.declared.conditions.Cond.TheVariants.{Is}
use Rattle.pw_defs.specs.declared.conditions.UnitCond.{UnitCond}
use Rattle.pw_defs.specs.declared.intent.Domain.{Domain}
use Rattle.pw_defs.specs.declared.intent.Intent.{Intent}
use Rattle.pw_defs.specs.declared.intent.RootList.{RootList}
use Rattle.pw_defs.specs.declared.values.Value.{Value}
use Rattle.line_forms.specs.declared.script_lines.CommandLine.{CommandLine}
use Rattle.list_defs.specs.Members.{place_of, same_name}
use Rattle.list_defs.specs.Orders.{IsRising}
use Rattle.supply_defs.specs.Conditions.{speaks_below}
use Rattle.supply_defs.proofs.Meaning.{speaks_any, speaks_is}
use Rattle.form_intent.specs.Script.{DomainNames, SetNames, cond_of, cond_with, domains_made, nets_made, no_set, root_list, set_named, set_numbers, sets_made, stated, supply_named}
use Rattle.form_intent.specs.Fits.{script_fits}
use Rattle.form_intent.specs.Intent.{IsIntentOf, domain_with, supply_names}
use Rattle.form_intent.specs.Sound.{IsSound, NamesBelow}
use Rattle.form_intent.proofs.FitLemmas.{has_net}
use Rattle.list_defs.proofs.NameLemmas.{place_of-within}
use Rattle.form_intent.proofs.ValueLemmas.{IsRising-values_of}

-- each part of a condition speaks of its supply
all_speak : (n supply : ℕ) (values : List Value) → supply < n → list_all (speaks_below n) (map (λ v. Is supply v) values) ≡ true
all_speak n supply [] below = refl
all_speak n supply (v ∷ vs) below =
    ap (λ b. b && list_all (speaks_below n) (map (λ v. Is supply v) vs)) (speaks_is n supply v ∙ lt-ltb supply n below) ∙ all_speak n supply vs below

-- the conditions of supplies speak of these alone
conds_speak : (n : ℕ) (commands : List CommandLine) (first : ℕ) (names : List (List ℕ)) → first + length names ≤ n → AllByRecursion (λ (c : UnitCond). speaks_below n c.cond ≡ true) (filter_map (cond_of commands) (enumerate_from first names))
conds_speak n commands first [] within = tt
conds_speak n commands first (name ∷ names) within =
    by (stated commands name) (conds_speak n commands (first + 1) names (omega arith))
  where
    by : (values : List Value) → AllByRecursion (λ (c : UnitCond). speaks_below n c.cond ≡ true) (filter_map (cond_of commands) (enumerate_from (first + 1) names)) → AllByRecursion (λ (c : UnitCond). speaks_below n c.cond ≡ true) (cons_option (cond_with (first, values)) (filter_map (cond_of commands) (enumerate_from (first + 1) names)))
    by [] rest = rest
    by (v ∷ vs) rest =
        (speaks_any n (map (λ w. Is first w) (v ∷ vs)) ∙ all_speak n first (v ∷ vs) (omega arith), rest)

-- the number of a supply, where there is one
supply_named-below : (names : List (List ℕ)) (name : List ℕ) → 0 < length names → supply_named names name < length names
supply_named-below names name some = by (place_of (same_name name) names) refl
  where
    by : (o : Option ℕ) → place_of (same_name name) names ≡ o → unwrap_or o 0 < length names
    by None e = some
    by (Some n) e = place_of-within (same_name name) names n e

set_numbers-below : (names : List (List ℕ)) (set : SetNames) → 0 < length names → NamesBelow (length names) (set_numbers names set)
set_numbers-below names set some =
    record { power = supply_named-below names set.power some; ground = by set.ground }
  where
    by : (ground : Option (List ℕ)) → IfSome (option_map (supply_named names) ground) (λ g. g < length names)
    by None = tt
    by (Some name) = supply_named-below names name some

set_named-below : (names : List (List ℕ)) (sets : List SetNames) (name : List ℕ) → 0 < length names → NamesBelow (length names) (set_named names sets name)
set_named-below names sets name some =
    by (option_and_then (slice_get sets) (place_of (λ (s : SetNames). same_name name s.set) sets))
  where
    by : (o : Option SetNames) → NamesBelow (length names) (unwrap_or (option_map (set_numbers names) o) no_set)
    by None = record { power = some; ground = tt }
    by (Some set) = set_numbers-below names set some

-- each list of values rises
lists_rise : (commands : List CommandLine) (numbers : List (ℕ × List ℕ)) → AllByRecursion (λ (list : RootList). IsRising value_cmp list.values) (map (root_list commands) numbers)
lists_rise commands [] = tt
lists_rise commands (net ∷ numbers) = (IsRising-values_of (stated commands net.1), lists_rise commands numbers)

-- each set of a domain names supplies
sets_below : (n : ℕ) (names : List (List ℕ)) (sets : List SetNames) (instances : List (List ℕ)) (domains : List DomainNames) → length names ≡ n → 0 < length names → AllByRecursion (λ (d : Domain). NamesBelow n d.primary) (map (domain_with (set_named names sets) instances) domains)
sets_below n names sets instances [] count some = tt
sets_below n names sets instances (d ∷ domains) count some =
    (subst (λ m. NamesBelow m (set_named names sets d.primary)) count (set_named-below names sets d.primary some), sets_below n names sets instances domains count some)

-- The intent of a script of the form is sound.
pub IsSound-intent : (instances : List (List ℕ)) (commands : List CommandLine) (parents : List (Option ℕ)) (i : Intent) → script_fits instances commands ≡ true → IsIntentOf commands instances parents i → IsSound i
IsSound-intent instances commands parents i fits means =
    let names = supply_names i in
    let count : length names ≡ length i.supplies = length-map i.supplies (λ s. s.name) in
    let some : 0 < length names =
    omega (arith, length_permutation (nets_made commands) names means.order.same, has_net instances commands fits) in
    let numbers = enumerate_from 0 names in
    let domains = map (domain_with (set_named names (sets_made commands)) instances) (domains_made commands) in
    record {
      lists = ap length means.lists ∙ length-map numbers (root_list commands) ∙ length-enumerate_from 0 names ∙ count;
      rising = All-same (λ (list : RootList). IsRising value_cmp list.values) i.lists (map (root_list commands) numbers) means.lists (All-from_recursion (λ (list : RootList). IsRising value_cmp list.values) (map (root_list commands) numbers) (lists_rise commands numbers));
      conds = All-same (λ (c : UnitCond). speaks_below (length i.supplies) c.cond ≡ true) i.conds (filter_map (cond_of commands) numbers) means.conds (All-from_recursion (λ (c : UnitCond). speaks_below (length i.supplies) c.cond ≡ true) (filter_map (cond_of commands) numbers) (conds_speak (length i.supplies) commands 0 names (omega (arith, count))));
      sets = All-same (λ (d : Domain). NamesBelow (length i.supplies) d.primary) i.domains domains means.domains (All-from_recursion (λ (d : Domain). NamesBelow (length i.supplies) d.primary) domains (sets_below (length i.supplies) names (sets_made commands) instances (domains_made commands) count some));
    }
