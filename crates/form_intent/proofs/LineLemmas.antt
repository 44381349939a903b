-- What lines make and name, line by line.
use Rattle.std.proofs.Common.{◌≡◌, ℕ, ◌+◌, ◌<◌, ◌≤◌, Bool, true, false, not, ◌&&◌, ◌||◌, List, [], ◌∷◌, ◌++◌, Option, Some, None, get_or, length, take, drop, map, option_to_list, refl, sym, ap, ◌∙◌, arith, take-append-drop, zero-add}
use Rattle.std.proofs.lemmas.List.{take_more, take_all, drop_more, map-append, append-nil}
use Rattle.std.proofs.lemmas.Bool.{true≢false, not-false}
use Rattle.std.proofs.lemmas.List.Concat.{flat_map-append}
use Rattle.std.proofs.lemmas.List.Elements.{filter_map-append}
use Rattle.std.proofs.lemmas.List.Folds.{list_all_at, list_all_more}
use Rattle.std.proofs.lemmas.List.FromFn.{length-enumerate_from, get_or-enumerate_from}
use Rattle.std.specs.List.{cons_option, filter_map, flat_map, list_all, list_any, enumerate_from}
use Rattle.line_forms.specs.declared.script_lines.CommandLine.{CommandLine}
use Rattle.line_forms.specs.declared.script_lines.CommandLine.TheVariants.{SupplyNet, SupplyState, SupplySet, Domain}
use Rattle.list_defs.specs.Members.{all_differ, same_name}
use Rattle.list_defs.proofs.NameLemmas.{all_differ-again, all_differ-push}
use Rattle.form_intent.proofs.ListLemmas.{and_false}
use Rattle.form_intent.specs.declared.made.Made.{Made}
use Rattle.form_intent.specs.Script.{net_made, nets_made, object_made, set_made, set_names}
use Rattle.form_intent.specs.Fits.{is_made, line_fits, names_fit, names_known}
use Rattle.form_intent.specs.Made.{Gains, IsMadeBy, domain_named, is_taken, is_taken_if_any}

cons_option-nil : {X : Type 0} (o : Option X) → cons_option o [] ≡ option_to_list o
cons_option-nil None = refl
cons_option-nil (Some x) = refl

module _ {X Y : Type 0} (h : X → Option Y) where
  -- one more line gives what it gives, at the end
  pub filter_map_more : (xs : List X) (i : ℕ) (d : X) → i < length xs → filter_map h (take (i + 1) xs) ≡ filter_map h (take i xs) ++ option_to_list (h (get_or xs i d))
  filter_map_more xs i d within =
      ap (filter_map h) (take_more xs i d within) ∙ filter_map-append h (take i xs) (get_or xs i d ∷ []) ∙ ap (λ ys. filter_map h (take i xs) ++ ys) (cons_option-nil (h (get_or xs i d)))

  -- what stands before a line, the line's own, and what stands behind
  pub filter_map_split : (xs : List X) (i : ℕ) (d : X) (y : Y) → i < length xs → h (get_or xs i d) ≡ Some y → filter_map h xs ≡ filter_map h (take i xs) ++ y ∷ filter_map h (drop (i + 1) xs)
  filter_map_split xs i d y within gives =
      ap (filter_map h) (sym (take-append-drop i xs)) ∙ filter_map-append h (take i xs) (drop i xs) ∙ ap (λ ys. filter_map h (take i xs) ++ filter_map h ys) (drop_more xs i d within) ∙ ap (λ o. filter_map h (take i xs) ++ cons_option o (filter_map h (drop (i + 1) xs))) gives

-- one more line joins what it gives, at the end
pub flat_map_more : {X Y : Type 0} (h : X → List Y) (xs : List X) (i : ℕ) (d : X) → i < length xs → flat_map h (take (i + 1) xs) ≡ flat_map h (take i xs) ++ h (get_or xs i d)
flat_map_more h xs i d within =
    ap (flat_map h) (take_more xs i d within) ∙ flat_map-append h (take i xs) (get_or xs i d ∷ []) ∙ ap (λ ys. flat_map h (take i xs) ++ ys) (append-nil (h (get_or xs i d)))

-- each element with its place
pub get_or-enumerate : {X : Type 0} (xs : List X) (i : ℕ) (d : X) → i < length xs → get_or (enumerate_from 0 xs) i (0, d) ≡ (i, get_or xs i d)
get_or-enumerate xs i d within = get_or-enumerate_from 0 xs i (0, d) within ∙ ap (λ n. (n, get_or xs i d)) (zero-add i)

or_first : (t n s d : Bool) → (t || (n || s || d)) ≡ (t || n || s || d)
or_first true n s d = refl
or_first false n s d = refl

or_second : (t n s d : Bool) → (t || (n || s || d)) ≡ (n || (t || s) || d)
or_second true true s d = refl
or_second true false s d = refl
or_second false n s d = refl

or_third : (t n s d : Bool) → (t || (n || s || d)) ≡ (n || s || (t || d))
or_third true true s d = refl
or_third true false true d = refl
or_third true false false d = refl
or_third false n s d = refl

-- an object has a name exactly where a net, a set or a domain has it
pub list_any-objects : (test : List ℕ → Bool) (commands : List CommandLine) → list_any test (filter_map object_made commands) ≡ (list_any test (nets_made commands) || list_any test (set_names commands) || list_any test (filter_map domain_named commands))
list_any-objects test [] = refl
list_any-objects test (SupplyNet net ∷ commands) =
    ap (λ b. test net || b) (list_any-objects test commands) ∙ or_first (test net) (list_any test (nets_made commands)) (list_any test (set_names commands)) (list_any test (filter_map domain_named commands))
list_any-objects test (SupplyState net states ∷ commands) = list_any-objects test commands
list_any-objects test (SupplySet set power gnd ∷ commands) =
    ap (λ b. test set || b) (list_any-objects test commands) ∙ or_second (test set) (list_any test (nets_made commands)) (list_any test (set_names commands)) (list_any test (filter_map domain_named commands))
list_any-objects test (Domain domain element primary ∷ commands) =
    ap (λ b. test domain || b) (list_any-objects test commands) ∙ or_third (test domain) (list_any test (nets_made commands)) (list_any test (set_names commands)) (list_any test (filter_map domain_named commands))

-- the line of a place, which was read there
module _ (commands : List CommandLine) (i : ℕ) (command : CommandLine) (within : i < length commands) (read : command ≡ get_or commands i command) where
  -- what one more line gives comes at the end
  pub gained : {Y : Type 0} (h : CommandLine → Option Y) (old new : List Y) → new ≡ old ++ option_to_list (h command) → old ≡ filter_map h (take i commands) → new ≡ filter_map h (take (i + 1) commands)
  gained h old new more so_far =
      more ∙ ap (λ ys. ys ++ option_to_list (h command)) so_far ∙ ap (λ line. filter_map h (take i commands) ++ option_to_list (h line)) read ∙ sym (filter_map_more h commands i command within)

  pub gained-map : {Y Z : Type 0} (f : Y → Z) (h : CommandLine → Option Y) (old new : List Z) → new ≡ old ++ map f (option_to_list (h command)) → old ≡ map f (filter_map h (take i commands)) → new ≡ map f (filter_map h (take (i + 1) commands))
  gained-map f h old new more so_far =
      more ∙ ap (λ zs. zs ++ map f (option_to_list (h command))) so_far ∙ sym (map-append f (filter_map h (take i commands)) (option_to_list (h command))) ∙ ap (map f) (gained h (filter_map h (take i commands)) _ refl refl)

  pub IsMadeBy-more : (old new : Made) → IsMadeBy (take i commands) old → Gains command old new → IsMadeBy (take (i + 1) commands) new
  IsMadeBy-more old new so_far gains = record {
    nets = gained net_made old.nets new.nets gains.nets so_far.nets;
    sets = gained-map (λ s. s.set) set_made old.sets new.sets gains.sets so_far.sets;
    domains = gained domain_named old.domains new.domains gains.domains so_far.domains;
  }

  -- a name is taken exactly where lines made an object of it
  taken : (made : Made) (name : List ℕ) → IsMadeBy (take i commands) made → is_taken made name ≡ list_any (same_name name) (filter_map object_made (take i commands))
  taken made name so_far =
      ap (λ nets. list_any (same_name name) nets || is_made made.sets name || is_made made.domains name) so_far.nets ∙ ap (λ sets. list_any (same_name name) (nets_made (take i commands)) || list_any (same_name name) sets || is_made made.domains name) so_far.sets ∙ ap (λ domains. list_any (same_name name) (nets_made (take i commands)) || list_any (same_name name) (set_names (take i commands)) || list_any (same_name name) domains) so_far.domains ∙ sym (list_any-objects (same_name name) (take i commands))

  -- no name is made twice so far, and the line makes none that is taken
  pub all_differ-more : (made : Made) → IsMadeBy (take i commands) made → not (is_taken_if_any made (object_made command)) ≡ true → all_differ same_name (filter_map object_made (take i commands)) ≡ true → all_differ same_name (filter_map object_made (take (i + 1) commands)) ≡ true
  all_differ-more made so_far new differ =
      ap (all_differ same_name) (sym (gained object_made (filter_map object_made (take i commands)) _ refl refl)) ∙ by (object_made command) new
    where
      by : (o : Option (List ℕ)) → not (is_taken_if_any made o) ≡ true → all_differ same_name (filter_map object_made (take i commands) ++ option_to_list o) ≡ true
      by None new = ap (all_differ same_name) (append-nil (filter_map object_made (take i commands))) ∙ differ
      by (Some name) new =
          all_differ-push (filter_map object_made (take i commands)) name ∙ ap (λ b. b && not (list_any (same_name name) (filter_map object_made (take i commands)))) differ ∙ ap not (sym (taken made name so_far)) ∙ new

  -- each line names only what lines before it made, or one does not
  module _ (instances : List (List ℕ)) (made : Made) (so_far : IsMadeBy (take i commands) made) where
    fits_at : line_fits instances commands (get_or (enumerate_from 0 commands) i (0, command)) ≡ names_known instances made.nets made.sets command
    fits_at =
        ap (line_fits instances commands) (get_or-enumerate commands i command within) ∙ ap (names_known instances (nets_made (take i commands)) (set_names (take i commands))) (sym read) ∙ ap (λ sets. names_known instances (nets_made (take i commands)) sets command) (sym so_far.sets) ∙ ap (λ nets. names_known instances nets made.sets command) (sym so_far.nets)

    pub names_fit-unknown : names_known instances made.nets made.sets command ≡ false → names_fit instances commands ≡ false
    names_fit-unknown unknown =
        ap (λ b. b && all_differ same_name (filter_map object_made commands)) (list_all_at (line_fits instances commands) (enumerate_from 0 commands) i (0, command) (omega (arith, length-enumerate_from 0 commands)) (fits_at ∙ unknown))

    pub list_all-known : names_known instances made.nets made.sets command ≡ true → list_all (line_fits instances commands) (take i (enumerate_from 0 commands)) ≡ true → list_all (line_fits instances commands) (take (i + 1) (enumerate_from 0 commands)) ≡ true
    list_all-known known all =
        list_all_more (line_fits instances commands) (enumerate_from 0 commands) i (0, command) (omega (arith, length-enumerate_from 0 commands)) ∙ ap (λ b. b && line_fits instances commands (get_or (enumerate_from 0 commands) i (0, command))) all ∙ fits_at ∙ known

    -- the line makes what has a name already
    pub names_fit-again : not (is_taken_if_any made (object_made command)) ≡ false → names_fit instances commands ≡ false
    names_fit-again again = by (object_made command) (ap object_made (sym read)) again
      where
        by : (o : Option (List ℕ)) → object_made (get_or commands i command) ≡ o → not (is_taken_if_any made o) ≡ false → names_fit instances commands ≡ false
        by None makes again = absurd (true≢false again)
        by (Some name) makes again =
            and_false (list_all (line_fits instances commands) (enumerate_from 0 commands)) _ (ap (all_differ same_name) (filter_map_split object_made commands i command name within makes) ∙ all_differ-again (filter_map object_made (take i commands)) name _ (sym (taken made name so_far) ∙ not-false _ again))

-- all lines were gone through
pub names_fit-all : (instances : List (List ℕ)) (commands : List CommandLine) (i : ℕ) → length commands ≤ i → list_all (line_fits instances commands) (take i (enumerate_from 0 commands)) ≡ true → all_differ same_name (filter_map object_made (take i commands)) ≡ true → names_fit instances commands ≡ true
names_fit-all instances commands i past known differ =
    ap (λ lines. list_all (line_fits instances commands) lines && all_differ same_name (filter_map object_made commands)) (sym (take_all i (enumerate_from 0 commands) (omega (arith, length-enumerate_from 0 commands)))) ∙ ap (λ b. b && all_differ same_name (filter_map object_made commands)) known ∙ ap (λ lines. all_differ same_name (filter_map object_made lines)) (sym (take_all i commands past)) ∙ differ
