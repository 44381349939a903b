-- Each supply has its list, or one has too many values.
use Rattle.std.proofs.Common.{◌≡◌, ◌<◌, ◌∙◌, ◌&&◌, ◌++◌, ◌∷◌, [], Bool, Vec, Global, List, length, map, take, get_or, nat_le, sym, ap, arith}
use Rattle.std.proofs.lemmas.List.{length-map, length-take, take_all}
use Rattle.std.proofs.lemmas.List.Folds.{list_all_more}
use Rattle.std.proofs.lemmas.List.FromFn.{length-enumerate_from}
use Rattle.std.specs.List.{enumerate_from, list_all}
use Rattle.pw_defs.specs.declared.values.Value.{Value}
use Rattle.form_intent.specs.Script.{list_with, values_of}
use Rattle.form_intent.proofs.IndexLemmas.{map-numbered_more, take_numbered}
use Rattle.form_intent.proofs.lists.root_lists.Goals as goal

abbrev items_of : Vec Value Global → List Value
items_of values = values.items

abbrev few : Vec Value Global → Bool
few values = nat_le (length (values_of values.items)) 64

pub loop-values-preserved : goal.loop-values-preserved
loop-values-preserved c =
    let stated = c.args.stated.now in
    let i = c.loop-values.values-index in
    let item = c.values-item.result in
    let within : i < length stated = omega arith in
    let numbers = enumerate_from 0 (map items_of stated) in
    let root : c.len-root.result ≡ i =
    omega (arith, c.len-root.ensures, ap length c.loop-values.invariant.lists, length-map (take i numbers) list_with, length-take i numbers, length-enumerate_from 0 (map items_of stated), length-map stated items_of) in
    let found = rw c.in-Some.is at c.in_ok-values.ensures in
    record {
      lists = c.in_ok-push-in-Some.ensures.ok ∙ ap (λ lists. lists ++ record { unit = 0; root = c.len-root.result; values = c.in-Some.values } ∷ []) c.loop-values.invariant.lists ∙ ap (λ n. map list_with (take i numbers) ++ record { unit = 0; root = n; values = c.in-Some.values } ∷ []) root ∙ ap (λ values. map list_with (take i numbers) ++ record { unit = 0; root = i; values = values } ∷ []) (found.1 ∙ ap values_of c.as_slice.ensures.value) ∙ sym (map-numbered_more items_of stated i item within c.values-item.is list_with);
      few = list_all_more few stated i item within ∙ ap (λ b. b && few (get_or stated i item)) c.loop-values.invariant.few ∙ ap few (sym c.values-item.is) ∙ ap (λ values. nat_le (length (values_of values)) 64) (sym c.as_slice.ensures.value) ∙ found.0;
    }

pub returns : goal.returns
returns c =
    let stated = c.args.stated.now in
    let i = c.loop-values.values-index in
    (ap (list_all few) (sym (take_all i stated c.loop-values-test.false)) ∙ c.loop-values.invariant.few, c.loop-values.invariant.lists ∙ ap (map list_with) (take_numbered items_of stated i c.loop-values-test.false))
