-- Whether a script fits, part by part.
use Rattle.std.proofs.Common.{◌≡◌, ℕ, ◌<◌, Bool, true, false, ◌&&◌, nat_le, List, [], ◌∷◌, length, map, refl, sym, ap, ◌∙◌, arith}
use Rattle.std.proofs.lemmas.Bool.{false≢true}
use Rattle.std.proofs.lemmas.List.Folds.{list_all-map}
use Rattle.std.specs.List.{list_all}
use Rattle.std.specs.List.Sorted.{IsPermutation}
use Rattle.pw_defs.specs.declared.values.Value.{Value}
use Rattle.line_forms.specs.declared.script_lines.CommandLine.{CommandLine}
use Rattle.line_forms.specs.declared.script_lines.CommandLine.TheVariants.{SupplyNet, SupplyState, SupplySet, Domain}
use Rattle.form_intent.specs.Script.{nets_made, stated, values_of}
use Rattle.form_intent.specs.Fits.{elements, elements_fit, names_fit, script_fits, states_differ, values_fit}
use Rattle.form_intent.proofs.ListLemmas.{and_false, and_first, and_last, list_all-IsPermutation}

module _ (a b d e f g : Bool) where
  fails_1 : a ≡ false → (a && b && d && e && f && g) ≡ false
  fails_1 h = ap (λ x. x && b && d && e && f && g) h

  fails_2 : b ≡ false → (a && b && d && e && f && g) ≡ false
  fails_2 h = ap (λ x. x && d && e && f && g) (and_false a b h)

  fails_3 : d ≡ false → (a && b && d && e && f && g) ≡ false
  fails_3 h = ap (λ x. x && e && f && g) (and_false (a && b) d h)

  fails_4 : e ≡ false → (a && b && d && e && f && g) ≡ false
  fails_4 h = ap (λ x. x && f && g) (and_false (a && b && d) e h)

  fails_5 : f ≡ false → (a && b && d && e && f && g) ≡ false
  fails_5 h = ap (λ x. x && g) (and_false (a && b && d && e) f h)

  fails_6 : g ≡ false → (a && b && d && e && f && g) ≡ false
  fails_6 h = and_false (a && b && d && e && f) g h

and_true : (a b : Bool) → a ≡ true → b ≡ true → (a && b) ≡ true
and_true a b h k = ap (λ x. x && b) h ∙ k

module _ (instances : List (List ℕ)) (commands : List CommandLine) where
  pub script_fits-lines : nat_le (length commands) 1000000 ≡ false → script_fits instances commands ≡ false
  script_fits-lines = fails_1 (nat_le (length commands) 1000000) (names_fit instances commands) (nat_le (length (nets_made commands)) 1024) (list_all (states_differ commands) (nets_made commands)) (list_all (values_fit commands) (nets_made commands)) (elements_fit (elements instances commands))

  script_fits-names : names_fit instances commands ≡ false → script_fits instances commands ≡ false
  script_fits-names = fails_2 (nat_le (length commands) 1000000) (names_fit instances commands) (nat_le (length (nets_made commands)) 1024) (list_all (states_differ commands) (nets_made commands)) (list_all (values_fit commands) (nets_made commands)) (elements_fit (elements instances commands))

  script_fits-nets : nat_le (length (nets_made commands)) 1024 ≡ false → script_fits instances commands ≡ false
  script_fits-nets = fails_3 (nat_le (length commands) 1000000) (names_fit instances commands) (nat_le (length (nets_made commands)) 1024) (list_all (states_differ commands) (nets_made commands)) (list_all (values_fit commands) (nets_made commands)) (elements_fit (elements instances commands))

  pub script_fits-states : list_all (states_differ commands) (nets_made commands) ≡ false → script_fits instances commands ≡ false
  script_fits-states = fails_4 (nat_le (length commands) 1000000) (names_fit instances commands) (nat_le (length (nets_made commands)) 1024) (list_all (states_differ commands) (nets_made commands)) (list_all (values_fit commands) (nets_made commands)) (elements_fit (elements instances commands))

  pub script_fits-values : list_all (values_fit commands) (nets_made commands) ≡ false → script_fits instances commands ≡ false
  script_fits-values = fails_5 (nat_le (length commands) 1000000) (names_fit instances commands) (nat_le (length (nets_made commands)) 1024) (list_all (states_differ commands) (nets_made commands)) (list_all (values_fit commands) (nets_made commands)) (elements_fit (elements instances commands))

  pub script_fits-elements : elements_fit (elements instances commands) ≡ false → script_fits instances commands ≡ false
  script_fits-elements = fails_6 (nat_le (length commands) 1000000) (names_fit instances commands) (nat_le (length (nets_made commands)) 1024) (list_all (states_differ commands) (nets_made commands)) (list_all (values_fit commands) (nets_made commands)) (elements_fit (elements instances commands))

  pub script_fits-names_or_nets : (names_fit instances commands && nat_le (length (nets_made commands)) 1024) ≡ false → script_fits instances commands ≡ false
  script_fits-names_or_nets h = by (names_fit instances commands) refl h
    where
      by : (b : Bool) → names_fit instances commands ≡ b → (b && nat_le (length (nets_made commands)) 1024) ≡ false → script_fits instances commands ≡ false
      by true e h = script_fits-nets h
      by false e h = script_fits-names e

  -- where each part fits
  pub script_fits-all : nat_le (length commands) 1000000 ≡ true → names_fit instances commands ≡ true → nat_le (length (nets_made commands)) 1024 ≡ true → list_all (states_differ commands) (nets_made commands) ≡ true → list_all (values_fit commands) (nets_made commands) ≡ true → elements_fit (elements instances commands) ≡ true → script_fits instances commands ≡ true
  script_fits-all lines names nets states values top =
      let a = nat_le (length commands) 1000000 in
      let b = names_fit instances commands in
      let d = nat_le (length (nets_made commands)) 1024 in
      let e = list_all (states_differ commands) (nets_made commands) in
      let f = list_all (values_fit commands) (nets_made commands) in
      and_true (a && b && d && e && f) (elements_fit (elements instances commands)) (and_true (a && b && d && e) f (and_true (a && b && d) e (and_true (a && b) d (and_true a b lines names) nets) states) values) top

  pub fits-first_four : script_fits instances commands ≡ true → (nat_le (length commands) 1000000 ≡ true) × (names_fit instances commands ≡ true) × (nat_le (length (nets_made commands)) 1024 ≡ true) × (elements_fit (elements instances commands) ≡ true)
  fits-first_four fits =
      let a = nat_le (length commands) 1000000 in
      let b = names_fit instances commands in
      let d = nat_le (length (nets_made commands)) 1024 in
      let e = list_all (states_differ commands) (nets_made commands) in
      let f = list_all (values_fit commands) (nets_made commands) in
      let g = elements_fit (elements instances commands) in
      let abdef = and_first (a && b && d && e && f) g fits in
      let abd = and_first (a && b && d) e (and_first (a && b && d && e) f abdef) in
      let ab = and_first (a && b) d abd in
      (and_first a b ab, and_last a b ab, and_last (a && b) d abd, and_last (a && b && d && e && f) g fits)

-- a script that fits begins with a net
pub has_net : (instances : List (List ℕ)) (commands : List CommandLine) → script_fits instances commands ≡ true → 0 < length (nets_made commands)
has_net instances [] fits = absurd (false≢true (and_last true false (fits-first_four instances [] fits).3))
has_net instances (SupplyNet net ∷ commands) fits = omega arith
has_net instances (SupplyState net states ∷ commands) fits =
    absurd (false≢true ((fits-first_four instances (SupplyState net states ∷ commands) fits).1))
has_net instances (SupplySet set power gnd ∷ commands) fits =
    absurd (false≢true ((fits-first_four instances (SupplySet set power gnd ∷ commands) fits).1))
has_net instances (Domain domain element primary ∷ commands) fits =
    absurd (false≢true ((fits-first_four instances (Domain domain element primary ∷ commands) fits).1))

-- the values that are stated on the supplies, in another order than the nets are made
pub list_all-values : {V : Type 0} (view : V → List Value) (items : List V) (commands : List CommandLine) (names : List (List ℕ)) → IsPermutation (nets_made commands) names → map view items ≡ map (stated commands) names → list_all (values_fit commands) (nets_made commands) ≡ list_all (λ v. nat_le (length (values_of (view v))) 64) items
list_all-values view items commands names moved same =
    let few = λ (values : List Value). nat_le (length (values_of values)) 64 in
    sym (list_all-IsPermutation (values_fit commands) (nets_made commands) names moved) ∙ sym (list_all-map few (stated commands) names) ∙ ap (list_all few) (sym same) ∙ list_all-map few view items
