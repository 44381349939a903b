-- The parts of the script give those of the intent.
use Rattle.std.proofs.Common.{◌≡◌, ◌≤◌, ◌∙◌, Vec, Global, List, length, map, subst, sym, ap, refl, arith}
use Rattle.std.proofs.lemmas.Bool.{leb-true}
use Rattle.std.proofs.lemmas.List.{length-map}
use Rattle.std.proofs.lemmas.List.Sorted.{length_permutation}
use Rattle.std.specs.List.{enumerate_from, filter_map, zip}
use Rattle.pw_defs.specs.declared.supplies.Supply.{Supply}
use Rattle.pw_defs.specs.declared.values.Value.{Value}
use Rattle.list_defs.specs.Orders.{IsPutInOrder, name_cmp}
use Rattle.form_intent.specs.Script.{cond_of, cond_with, domains_made, nets_made, root_list, set_named, sets_made, stated as stated_on, supply_of}
use Rattle.form_intent.specs.Intent.{domain_for, domain_with}
use Rattle.form_intent.proofs.AssemblyLemmas.{length-elements-le, names-supplies, supplies-stated, supply}
use Rattle.form_intent.proofs.FitLemmas.{fits-first_four}
use Rattle.form_intent.proofs.IndexLemmas.{filter_map-enumerate_map}
use Rattle.form_intent.proofs.SoundLemmas.{IsSound-intent}
use Rattle.form_intent.proofs.intents.assemble.Goals as goal

abbrev items_of : Vec Value Global → List Value
items_of values = values.items

pub supplies-requires : goal.supplies-requires
supplies-requires c =
    let parts = c.args.parts.now in
    omega (arith, c.as_slice.ensures.len, ap length c.as_slice.ensures.value, ap length c.as_slice-stated.ensures.value, ap length c.requires.parts.values, length-map parts.stated.items items_of, length-map parts.order.names.items (stated_on c.args.commands.now))

pub conds-requires : goal.conds-requires
conds-requires c =
    let parts = c.args.parts.now in
    let lines = c.args.commands.now in
    let few : length (nets_made lines) ≤ 1024 =
    leb-true (length (nets_made lines)) 1024 (fits-first_four c.args.instances.now lines c.requires.fits).2 in
    omega (arith, few, length_permutation (nets_made lines) parts.order.names.items c.requires.parts.order.same, ap length c.as_slice-stated.ensures.value, ap length c.requires.parts.values, length-map parts.stated.items items_of, length-map parts.order.names.items (stated_on lines))

pub domains-requires : goal.domains-requires
domains-requires c = record {
  few = leb-true (length c.args.commands.now) 1000000 (fits-first_four c.args.instances.now c.args.commands.now c.requires.fits).0;
  names = c.requires.parts.sets;
}

pub domain_of-requires : goal.domain_of-requires
domain_of-requires c =
    let lines = c.args.commands.now in
    let few : length lines ≤ 1000000 =
    leb-true (length lines) 1000000 (fits-first_four c.args.instances.now lines c.requires.fits).0 in
    omega (arith, few, ap length c.requires.parts.found, length-elements-le c.args.instances.now lines)

pub returns-clause-intent : goal.returns-clause-intent
returns-clause-intent c =
    let parts = c.args.parts.now in
    let lines = c.args.commands.now in
    let instances = c.args.instances.now in
    let names = parts.order.names.items in
    let given : c.in_ok-supplies.supplies ≡ map (supply_of lines) names =
    c.in_ok-supplies.ensures ∙ ap (λ ns. map supply (zip ns (map items_of c.as_slice-stated.result.now))) c.as_slice.ensures.value ∙ ap (λ vs. map supply (zip names (map items_of vs))) c.as_slice-stated.ensures.value ∙ supplies-stated lines names (map items_of parts.stated.items) c.requires.parts.values in
    let named : names ≡ map (λ (s : Supply). s.name) c.in_ok-supplies.supplies =
    sym (ap (map (λ (s : Supply). s.name)) given ∙ names-supplies lines names) in
    record {
      order = subst (IsPutInOrder name_cmp (nets_made lines)) named c.requires.parts.order;
      supplies = given ∙ ap (map (supply_of lines)) named;
      lists = c.requires.parts.lists_are ∙ ap (λ ns. map (root_list lines) (enumerate_from 0 ns)) named;
      conds = c.in_ok-conds.ensures ∙ ap (λ vs. filter_map cond_with (enumerate_from 0 (map items_of vs))) c.as_slice-stated.ensures.value ∙ ap (λ vs. filter_map cond_with (enumerate_from 0 vs)) c.requires.parts.values ∙ filter_map-enumerate_map cond_with (stated_on lines) 0 names ∙ ap (λ ns. filter_map (cond_of lines) (enumerate_from 0 ns)) named;
      domains = c.in_ok-domains.ensures ∙ ap (λ ns. map (domain_with (set_named ns (sets_made lines)) instances) (domains_made lines)) (c.requires.parts.index ∙ named);
      domain_of = c.in_ok-domain_of.ensures ∙ ap (λ es. map (domain_for es) (enumerate_from 0 c.args.parents.now)) c.requires.parts.found;
      want = refl;
      units = c.in_ok-units.ensures;
      strategies = c.new.ensures;
      cell_sets = c.new-2.ensures;
      port_sets = c.new-3.ensures;
    }

pub returns-clause-sound : goal.returns-clause-sound
returns-clause-sound c =
    IsSound-intent c.args.instances.now c.args.commands.now c.args.parents.now _ c.requires.fits (returns-clause-intent c)
