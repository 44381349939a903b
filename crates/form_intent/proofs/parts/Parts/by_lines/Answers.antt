-- Each part fits and is what the lines say, or the script does not fit.
use Rattle.std.proofs.Common.{◌≡◌, ◌∙◌, Vec, Global, List, Bool, true, nat_le, length, map, sym, ap}
use Rattle.std.proofs.lemmas.Bool.{le-leb}
use Rattle.std.specs.List.{enumerate_from, list_all}
use Rattle.pw_defs.specs.declared.values.Value.{Value}
use Rattle.form_intent.specs.Script.{list_with, nets_made, stated as stated_on, values_of}
use Rattle.form_intent.specs.Fits.{states_differ, values_fit}
use Rattle.form_intent.proofs.FitLemmas.{list_all-values, script_fits-all, script_fits-elements, script_fits-names_or_nets, script_fits-states, script_fits-values}
use Rattle.form_intent.proofs.IndexLemmas.{map-enumerate_map}
use Rattle.form_intent.proofs.ListLemmas.{list_all-IsPermutation}
use Rattle.form_intent.proofs.parts.Parts.by_lines.Goals as goal

abbrev items_of : Vec Value Global → List Value
items_of values = values.items

abbrev few : Vec Value Global → Bool
few values = nat_le (length (values_of values.items)) 64

pub returns-in-None : goal.returns-in-None
returns-in-None c =
    script_fits-names_or_nets c.args.instances.now c.args.commands.now (rw c.in-None.is at c.in_ok-set_names.ensures)

pub supply_order-requires : goal.supply_order-requires
supply_order-requires c = let names = rw c.in-Some.is at c.in_ok-set_names.ensures in names.3

pub returns-in-None-2 : goal.returns-in-None-2
returns-in-None-2 c =
    let lines = c.args.commands.now in
    let order = c.in_ok-order.ensures in
    script_fits-states c.args.instances.now lines (sym (list_all-IsPermutation (states_differ lines) (nets_made lines) c.in_ok-order.order.names.items order.order.same) ∙ ap (list_all (states_differ lines)) (sym order.index) ∙ rw c.in-None-2.is at c.in_ok-stated.ensures)

pub returns-in-None-3 : goal.returns-in-None-3
returns-in-None-3 c =
    let lines = c.args.commands.now in
    let stated = rw c.in-Some-2.is at c.in_ok-stated.ensures in
    let order = c.in_ok-order.ensures in
    let names = c.in_ok-order.order.names.items in
    let shown : map items_of c.in-Some-2.stated.items ≡ map (stated_on lines) names =
    stated.1 ∙ ap (map (stated_on lines)) order.index in
    script_fits-values c.args.instances.now lines (list_all-values items_of c.in-Some-2.stated.items lines names order.order.same shown ∙ ap (list_all few) (sym c.as_slice.ensures.value) ∙ rw c.in-None-3.is at c.in_ok-lists.ensures)

pub returns-in-None-4 : goal.returns-in-None-4
returns-in-None-4 c =
    script_fits-elements c.args.instances.now c.args.commands.now (rw c.in-None-4.is at c.in_ok-elements.ensures)

pub returns : goal.returns
returns c =
    let lines = c.args.commands.now in
    let instances = c.args.instances.now in
    let made = rw c.in-Some.is at c.in_ok-set_names.ensures in
    let order = c.in_ok-order.ensures in
    let names = c.in_ok-order.order.names.items in
    let stated = rw c.in-Some-2.is at c.in_ok-stated.ensures in
    let lists = rw c.in-Some-3.is at c.in_ok-lists.ensures in
    let found = rw c.in-Some-4.is at c.in_ok-elements.ensures in
    let shown : map items_of c.in-Some-2.stated.items ≡ map (stated_on lines) names =
    stated.1 ∙ ap (map (stated_on lines)) order.index in
    let few_lines : nat_le (length lines) 1000000 ≡ true = le-leb (length lines) 1000000 c.if-commands-gt-MAX_LINES.false in
    let states : list_all (states_differ lines) (nets_made lines) ≡ true =
    sym (list_all-IsPermutation (states_differ lines) (nets_made lines) names order.order.same) ∙ ap (list_all (states_differ lines)) (sym order.index) ∙ stated.0 in
    let values : list_all (values_fit lines) (nets_made lines) ≡ true =
    list_all-values items_of c.in-Some-2.stated.items lines names order.order.same shown ∙ ap (list_all few) (sym c.as_slice.ensures.value) ∙ lists.0 in (
      script_fits-all instances lines few_lines made.0 made.1 states values found.0,
      record {
        sets = made.2;
        order = order.order;
        index = order.index;
        values = shown;
        lists_are = lists.1 ∙ ap (λ of_all. map list_with (enumerate_from 0 (map items_of of_all))) c.as_slice.ensures.value ∙ ap (λ of_all. map list_with (enumerate_from 0 of_all)) shown ∙ map-enumerate_map list_with (stated_on lines) 0 names;
        found = found.1;
      },
    )
