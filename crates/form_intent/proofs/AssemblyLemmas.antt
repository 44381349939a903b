-- The parts of an intent, from those of the script.
use Rattle.std.proofs.Common.{◌≡◌, ◌≤◌, ℕ, zero, suc, List, [], ◌∷◌, Option, Some, None, length, map, option_map, slice_get, unwrap_or, refl, ap, ◌∙◌, arith}
use Rattle.std.proofs.lemmas.List.FromFn.{length-enumerate_from}
use Rattle.std.specs.List.{cons_option, enumerate_from, filter_map, zip}
use Rattle.std.specs.Option.{option_and_then}
use Rattle.pw_defs.specs.declared.intent.SupplySet.{SupplySet}
use Rattle.pw_defs.specs.declared.supplies.Supply.{Supply}
use Rattle.pw_defs.specs.declared.values.Value.{Value}
use Rattle.line_forms.specs.declared.script_lines.CommandLine.{CommandLine}
use Rattle.list_defs.specs.Members.{place_of, same_name}
use Rattle.list_defs.proofs.NameLemmas.{place_of-map}
use Rattle.form_intent.specs.Script.{DomainNames, SetNames, domain_made, domains_made, no_set, set_named, set_names, set_numbers, sets_made, stated, supply_of, supply_with}
use Rattle.form_intent.specs.Fits.{element_number, elements}
use Rattle.form_intent.specs.Intent.{domain_with}
use Rattle.form_intent.specs.Sets.{set_at}
use Rattle.form_intent.proofs.IndexLemmas.{map-zip_map}
use Rattle.form_intent.proofs.PlaceLemmas.{map-ext}

abbrev pub supply : List ℕ × List Value → Supply
supply s = supply_with s.0 s.1

-- the supplies of the names
pub supplies-stated : (commands : List CommandLine) (names : List (List ℕ)) (values : List (List Value)) → values ≡ map (stated commands) names → map supply (zip names values) ≡ map (supply_of commands) names
supplies-stated commands names values same =
    ap (λ vs. map supply (zip names vs)) same ∙ map-zip_map supply (stated commands) names

pub names-supplies : (commands : List CommandLine) (names : List (List ℕ)) → map (λ (s : Supply). s.name) (map (supply_of commands) names) ≡ names
names-supplies commands [] = refl
names-supplies commands (name ∷ names) = ap (λ ns. name ∷ ns) (names-supplies commands names)

slice_get-map : {A B : Type 0} (f : A → B) (xs : List A) (i : ℕ) → slice_get (map f xs) i ≡ option_map f (slice_get xs i)
slice_get-map f [] i = refl
slice_get-map f (x ∷ xs) zero = refl
slice_get-map f (x ∷ xs) (suc i) = slice_get-map f xs i

-- a set that is found by its name's place
pub set_at-named : (nets : List (List ℕ)) (sets : List SetNames) (name : List ℕ) → set_at (map (λ (s : SetNames). s.set) sets) (map (set_numbers nets) sets) name ≡ set_named nets sets name
set_at-named nets sets name =
    ap (λ o. unwrap_or (option_and_then (slice_get (map (set_numbers nets) sets)) o) no_set) (place_of-map (λ (s : SetNames). s.set) (same_name name) sets) ∙ by (place_of (λ (s : SetNames). same_name name s.set) sets)
  where
    by : (o : Option ℕ) → unwrap_or (option_and_then (slice_get (map (set_numbers nets) sets)) o) no_set ≡ unwrap_or (option_map (set_numbers nets) (option_and_then (slice_get sets) o)) no_set
    by None = refl
    by (Some n) = ap (λ o. unwrap_or o no_set) (slice_get-map (set_numbers nets) sets n)

-- the domains with their sets
pub domains-named : (commands : List CommandLine) (instances nets : List (List ℕ)) (names : List (List ℕ)) (sets : List SupplySet) → names ≡ set_names commands → sets ≡ map (set_numbers nets) (sets_made commands) → map (domain_with (set_at names sets) instances) (domains_made commands) ≡ map (domain_with (set_named nets (sets_made commands)) instances) (domains_made commands)
domains-named commands instances nets names sets same_names same_sets =
    map-ext (domain_with (set_at names sets) instances) (domain_with (set_named nets (sets_made commands)) instances) (domains_made commands) (λ d. ap (λ primary. domain_with (λ _. primary) instances d) (ap (λ ns. set_at ns sets d.primary) same_names ∙ ap (λ ss. set_at (set_names commands) ss d.primary) same_sets ∙ set_at-named nets (sets_made commands) d.primary))

length-filter_map-le : {X Y : Type 0} (h : X → Option Y) (xs : List X) → length (filter_map h xs) ≤ length xs
length-filter_map-le h [] = omega arith
length-filter_map-le {X} {Y} h (x ∷ xs) = by (h x) (length-filter_map-le h xs)
  where
    by : (o : Option Y) → length (filter_map h xs) ≤ length xs → length (cons_option o (filter_map h xs)) ≤ length (x ∷ xs)
    by None le = omega arith
    by (Some y) le = omega arith

-- there are no more elements than lines
pub length-elements-le : (instances : List (List ℕ)) (commands : List CommandLine) → length (elements instances commands) ≤ length commands
length-elements-le instances commands =
    omega (arith, length-filter_map-le (λ (d : DomainNames). element_number instances d.element) (domains_made commands), length-filter_map-le domain_made (enumerate_from 1 commands), length-enumerate_from 1 commands)
