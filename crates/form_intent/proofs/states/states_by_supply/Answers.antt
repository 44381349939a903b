-- Each line adds its states to those of its supply.
use Rattle.std.proofs.Common.{◌≡◌, ◌<◌, ◌∙◌, List, [], ◌++◌, Vec, Global, Bor, length, map, take, replicate, sym, ap, arith}
use Rattle.std.proofs.lemmas.List.{with_items_is}
use Rattle.line_forms.specs.declared.script_lines.StateWords.{StateWords}
use Rattle.form_intent.specs.Script.{states_of, states_on}
use Rattle.form_intent.proofs.LineLemmas.{flat_map_more}
use Rattle.form_intent.proofs.PlaceLemmas.{map-ext, map-same}
use Rattle.form_intent.proofs.states.states_by_supply.Goals as goal

abbrev states_in : Vec (Bor StateWords) Global → List StateWords
states_in states = map (λ state. state.now) states.items

pub loop-command-init : goal.loop-command-init
loop-command-init c =
    let all : length c.args.supplies.now ≡ c.loop.counter = omega arith in
    c.loop.invariant ∙ ap (λ n. replicate n []) (sym all) ∙ sym (map-same [] c.args.supplies.now)

pub loop-command-preserved : goal.loop-command-preserved
loop-command-preserved c =
    let lines = c.args.commands.now in
    let i = c.loop-command.command-index in
    let within : i < length lines = omega arith in
    ap (map states_in) (with_items_is c.loop-command.groups c.put_states.new.groups (omega arith)) ∙ c.in_ok-put_states.ensures (states_of (take i lines)) (ap (map states_in) c.as_mut_slice.ensures.value ∙ c.loop-command.invariant) ∙ map-ext _ _ c.args.supplies.now (λ net. ap (λ line. states_of (take i lines) net ++ states_on net line) c.command-item.is ∙ sym (flat_map_more (states_on net) lines i c.command-item.result within))
