-- Each name has its supply.
use Rattle.std.proofs.Common.{◌≡◌, ◌<◌, ◌∙◌, ◌++◌, [], ◌∷◌, ℕ, Vec, Global, List, length, map, take, sym, ap, arith}
use Rattle.std.specs.List.{zip}
use Rattle.pw_defs.specs.declared.supplies.Supply.{Supply}
use Rattle.pw_defs.specs.declared.values.Value.{Value}
use Rattle.form_intent.specs.Script.{supply_with}
use Rattle.form_intent.proofs.IndexLemmas.{map-zipped_more, take_zipped}
use Rattle.form_intent.proofs.lists.supplies.Goals as goal

abbrev items_of : Vec Value Global → List Value
items_of values = values.items

abbrev supply : List ℕ × List Value → Supply
supply s = supply_with s.0 s.1

pub loop-place-preserved : goal.loop-place-preserved
loop-place-preserved c =
    let names = c.args.names.now in
    let stated = c.args.stated.now in
    let i = c.loop-place.place in
    let name = c.index-names-place.result in
    let values = c.index-stated-place.result in
    let so_far = map supply (take i (zip names (map items_of stated))) in
    let within : i < length names = omega arith in
    let made : c.in_ok-supply.field-0 ≡ supply_with name values.items =
    c.in_ok-supply.ensures ∙ ap (supply_with name) c.as_slice.ensures.value in
    c.in_ok-push.ensures.ok ∙ ap (λ supplies. supplies ++ c.in_ok-supply.field-0 ∷ []) c.loop-place.invariant ∙ ap (λ s. so_far ++ s ∷ []) made ∙ sym (map-zipped_more supply items_of names stated c.requires i name values within c.index-names-place.is c.index-stated-place.is)

pub returns : goal.returns
returns c =
    c.loop-place.invariant ∙ ap (map supply) (take_zipped supply items_of c.args.names.now c.args.stated.now c.requires c.loop-place.place c.loop-place-test.false)
