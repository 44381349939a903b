-- Each supply has its condition, where it has one.
use Rattle.std.proofs.Common.{◌≡◌, ◌<◌, ◌∙◌, ◌++◌, [], ◌∷◌, Vec, Global, List, option_to_list, length, take, map, sym, ap, arith}
use Rattle.std.proofs.lemmas.List.{append-nil}
use Rattle.std.specs.List.{enumerate_from, filter_map}
use Rattle.pw_defs.specs.declared.values.Value.{Value}
use Rattle.form_intent.specs.Script.{cond_with}
use Rattle.form_intent.proofs.IndexLemmas.{filter_map-numbered_more, take_numbered}
use Rattle.form_intent.proofs.lists.conds.Goals as goal
use Rattle.form_intent.proofs.lists.conds.Goals.{in-Some+in_ok-push-in-Some, in-None}

abbrev items_of : Vec Value Global → List Value
items_of values = values.items

pub loop-supply-preserved : goal.loop-supply-preserved
loop-supply-preserved c =
    let stated = c.args.stated.now in
    let i = c.loop-supply.supply in
    let so_far = filter_map cond_with (take i (enumerate_from 0 (map items_of stated))) in
    let cond : c.in_ok-cond.field-0 ≡ cond_with (i, c.index-stated-supply.result.items) =
    c.in_ok-cond.ensures ∙ ap (λ values. cond_with (i, values)) c.as_slice.ensures.value in
    let within : i < length stated = omega arith in
    let more = sym (filter_map-numbered_more items_of stated i c.index-stated-supply.result within c.index-stated-supply.is cond_with) in
    elim c.match-branch-2.branch [
      | in-Some+in_ok-push-in-Some w ↦ w.conds-is ∙ w.in_ok-push-in-Some.ensures.ok ∙ ap (λ conds. conds ++ w.in-Some.cond ∷ []) c.loop-supply.invariant ∙ ap (λ o. so_far ++ option_to_list o) (sym w.in-Some.is ∙ cond) ∙ more
      | in-None w ↦ w.conds-is ∙ c.loop-supply.invariant ∙ sym (append-nil so_far) ∙ ap (λ o. so_far ++ option_to_list o) (sym w.in-None.is ∙ cond) ∙ more
    ]

pub returns : goal.returns
returns c =
    c.loop-supply.invariant ∙ ap (filter_map cond_with) (take_numbered items_of c.args.stated.now c.loop-supply.supply c.loop-supply-test.false)
