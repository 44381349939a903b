-- The states of each supply are those that the lines state on it.
use Rattle.std.proofs.Common.{◌≡◌, ◌<◌, ◌∙◌, ℕ, ◌&&◌, List, [], ◌∷◌, ◌++◌, Vec, Global, Bor, length, map, take, get_or, sym, ap, arith}
use Rattle.std.proofs.lemmas.List.{length-map, map_push, map_more}
use Rattle.std.proofs.lemmas.List.Folds.{list_all_at, list_all_more}
use Rattle.std.proofs.lemmas.Simd.{map-map}
use Rattle.line_forms.specs.declared.script_lines.CommandLine.{CommandLine}
use Rattle.line_forms.specs.declared.script_lines.StateWords.{StateWords}
use Rattle.list_defs.specs.Members.{all_differ, same_name}
use Rattle.form_intent.specs.Script.{stated, states_of}
use Rattle.form_intent.specs.Fits.{states_differ}
use Rattle.form_intent.proofs.PlaceLemmas.{shown-at}
use Rattle.form_intent.proofs.states.stated_values.Goals as goal

abbrev states_in : Vec (Bor StateWords) Global → List StateWords
states_in states = map (λ state. state.now) states.items

-- what the lines say of the supply of a group
module _ (commands : List CommandLine) (nets : List (List ℕ)) (groups : List (Vec (Bor StateWords) Global)) (i : ℕ) (group : Vec (Bor StateWords) Global) (grouped : map states_in groups ≡ map (states_of commands) nets) (within : i < length groups) (read : group ≡ get_or groups i group) where
  shown : states_in group ≡ states_of commands (get_or nets i [])
  shown = shown-at states_in (states_of commands) groups nets i group grouped within read

  names_shown : all_differ same_name (map (λ state. state.now.name) group.items) ≡ states_differ commands (get_or nets i [])
  names_shown =
      ap (all_differ same_name) (sym (map-map (λ (state : StateWords). state.name) (λ (state : Bor StateWords). state.now) group.items) ∙ ap (map (λ (state : StateWords). state.name)) shown)

  values_shown : map (λ state. state.now.value) group.items ≡ stated commands (get_or nets i [])
  values_shown =
      sym (map-map (λ (state : StateWords). state.value) (λ (state : Bor StateWords). state.now) group.items) ∙ ap (map (λ (state : StateWords). state.value)) shown

  inside : i < length nets
  inside = omega (arith, ap length grouped, length-map groups states_in, length-map nets (states_of commands))

pub returns-then-not-branch : goal.returns-then-not-branch
returns-then-not-branch c =
    let lines = c.args.commands.now in
    let nets = c.args.supplies.now in
    let groups = c.deref-states-items.result.now in
    let i = c.loop-states.states-index in
    let grouped : map states_in groups ≡ map (states_of lines) nets =
    ap (map states_in) c.deref-states-items.ensures.value ∙ c.in_ok-groups.ensures in
    let within : i < length groups = omega arith in
    list_all_at (states_differ lines) nets i [] (inside lines nets groups i c.states-item.result grouped within c.states-item.is) (sym (names_shown lines nets groups i c.states-item.result grouped within c.states-item.is) ∙ ap (λ states. all_differ same_name (map (λ state. state.now.name) states)) (sym c.as_slice-states.ensures.value) ∙ sym c.in_ok-names_differ.ensures ∙ c.if-not-branch.true)

pub loop-states-preserved : goal.loop-states-preserved
loop-states-preserved c =
    let lines = c.args.commands.now in
    let nets = c.args.supplies.now in
    let groups = c.deref-states-items.result.now in
    let i = c.loop-states.states-index in
    let grouped : map states_in groups ≡ map (states_of lines) nets =
    ap (map states_in) c.deref-states-items.ensures.value ∙ c.in_ok-groups.ensures in
    let within : i < length groups = omega arith in
    let in_nets : i < length nets = inside lines nets groups i c.states-item.result grouped within c.states-item.is in
    (list_all_more (states_differ lines) nets i [] in_nets ∙ ap (λ b. b && states_differ lines (get_or nets i [])) c.loop-states.invariant.0 ∙ sym (names_shown lines nets groups i c.states-item.result grouped within c.states-item.is) ∙ ap (λ states. all_differ same_name (map (λ state. state.now.name) states)) (sym c.as_slice-states.ensures.value) ∙ sym c.in_ok-names_differ.ensures ∙ c.if-not-branch.false, ap (map (λ of_one. of_one.items)) c.in_ok-push.ensures.items ∙ map_push (λ of_one. of_one.items) c.loop-states.values.items c.in_ok-values_in.field-0 ∙ ap (λ ys. ys ++ c.in_ok-values_in.field-0.items ∷ []) c.loop-states.invariant.1 ∙ ap (λ y. map (stated lines) (take i nets) ++ y ∷ []) (c.in_ok-values_in.ensures ∙ ap (map (λ state. state.now.value)) c.as_slice-states.ensures.value ∙ values_shown lines nets groups i c.states-item.result grouped within c.states-item.is) ∙ sym (map_more (stated lines) nets i [] in_nets))
