-- The elements of the domains, line by line.
use Rattle.std.proofs.Common.{◌≡◌, ℕ, ◌+◌, ◌<◌, ◌≤◌, ◌==◌, true, false, not, ◌&&◌, List, [], ◌∷◌, ◌++◌, Option, Some, None, get_or, length, drop, take, option_to_list, refl, sym, ap, ◌∙◌}
use Rattle.std.proofs.lemmas.Bool.{true≢false, not-true, not-false}
use Rattle.std.proofs.lemmas.Cmp.{nat_eq_equiv}
use Rattle.std.proofs.lemmas.List.{append-nil, take_all}
use Rattle.std.specs.List.{cons_option, enumerate_from, filter_map, list_any}
use Rattle.line_forms.specs.declared.script_lines.CommandLine.{CommandLine}
use Rattle.line_forms.specs.declared.script_lines.CommandLine.TheVariants.{SupplyNet, SupplyState, SupplySet, Domain}
use Rattle.list_defs.specs.Members.{all_differ}
use Rattle.form_intent.specs.Script.{DomainNames, domain_made}
use Rattle.form_intent.specs.Fits.{element_number, elements, elements_fit}
use Rattle.form_intent.specs.Elements.{is_among, line_element}
use Rattle.form_intent.proofs.LineLemmas.{filter_map_split}
use Rattle.form_intent.proofs.ListLemmas.{all_differ-last, all_differ-repeated, and_false}

elements-from : (instances : List (List ℕ)) (n : ℕ) (commands : List CommandLine) → filter_map (λ (d : DomainNames). element_number instances d.element) (filter_map domain_made (enumerate_from n commands)) ≡ filter_map (line_element instances) commands
elements-from instances n [] = refl
elements-from instances n (SupplyNet net ∷ commands) = elements-from instances (n + 1) commands
elements-from instances n (SupplyState net states ∷ commands) = elements-from instances (n + 1) commands
elements-from instances n (SupplySet set power gnd ∷ commands) = elements-from instances (n + 1) commands
elements-from instances n (Domain domain element primary ∷ commands) =
    ap (cons_option (element_number instances element)) (elements-from instances (n + 1) commands)

pub elements-by_line : (instances : List (List ℕ)) (commands : List CommandLine) → elements instances commands ≡ filter_map (line_element instances) commands
elements-by_line instances commands = elements-from instances 1 commands

-- the elements still differ where the next is none of them
pub all_differ-next : (found : List ℕ) (next : Option ℕ) → not (is_among found next) ≡ true → all_differ ◌==◌ found ≡ true → all_differ ◌==◌ (found ++ option_to_list next) ≡ true
all_differ-next found None new differ = ap (all_differ ◌==◌) (append-nil found) ∙ differ
all_differ-next found (Some e) new differ = all_differ-last ◌==◌ nat_eq_equiv found e (not-true _ new) differ

module _ (instances : List (List ℕ)) (commands : List CommandLine) where
  -- an element of two domains
  pub elements_fit-again : (i : ℕ) (command : CommandLine) (found : List ℕ) → i < length commands → command ≡ get_or commands i command → found ≡ filter_map (line_element instances) (take i commands) → not (is_among found (line_element instances command)) ≡ false → elements_fit (elements instances commands) ≡ false
  elements_fit-again i command found within read so_far again =
      by (line_element instances command) (ap (line_element instances) (sym read)) again
    where
      by : (o : Option ℕ) → line_element instances (get_or commands i command) ≡ o → not (is_among found o) ≡ false → elements_fit (elements instances commands) ≡ false
      by None makes again = absurd (true≢false again)
      by (Some e) makes again =
          let all = elements-by_line instances commands ∙ filter_map_split (line_element instances) commands i command e within makes in
          let repeated = all_differ-repeated ◌==◌ nat_eq_equiv (filter_map (line_element instances) (take i commands)) e (filter_map (line_element instances) (drop (i + 1) commands)) (ap (list_any (◌==◌ e)) (sym so_far) ∙ not-false _ again) in
          ap (λ b. b && list_any (◌==◌ 0) (elements instances commands)) (ap (all_differ ◌==◌) all ∙ repeated)

  module _ (i : ℕ) (found : List ℕ) (past : length commands ≤ i) (so_far : found ≡ filter_map (line_element instances) (take i commands)) where
    -- all elements were found
    pub found_all : found ≡ elements instances commands
    found_all =
        so_far ∙ ap (filter_map (line_element instances)) (take_all i commands past) ∙ sym (elements-by_line instances commands)

    -- the top is none of them
    pub elements_fit-no_top : list_any (◌==◌ 0) found ≡ false → elements_fit (elements instances commands) ≡ false
    elements_fit-no_top none =
        and_false (all_differ ◌==◌ (elements instances commands)) _ (ap (list_any (◌==◌ 0)) (sym found_all) ∙ none)

    pub elements_fit-all : all_differ ◌==◌ found ≡ true → list_any (◌==◌ 0) found ≡ true → elements_fit (elements instances commands) ≡ true
    elements_fit-all differ top =
        ap elements_fit (sym found_all) ∙ ap (λ b. b && list_any (◌==◌ 0) found) differ ∙ top
