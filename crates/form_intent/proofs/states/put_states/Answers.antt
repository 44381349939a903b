-- The states of a line come to its supply alone.
use Rattle.std.proofs.Common.{◌≡◌, ◌∙◌, List, ◌++◌, Vec, Global, Bor, Some, None, map, sym, ap, arith}
use Rattle.line_forms.specs.declared.script_lines.StateWords.{StateWords}
use Rattle.list_defs.specs.Members.{place_of, same_name}
use Rattle.form_intent.specs.Script.{states_on}
use Rattle.form_intent.proofs.PlaceLemmas.{map-set-place_of, map-absent}
use Rattle.list_defs.proofs.NameLemmas.{place_of-within}
use Rattle.form_intent.proofs.states.put_states.Goals as goal

abbrev states_in : Vec (Bor StateWords) Global → List StateWords
states_in states = map (λ state. state.now) states.items

pub bounds-groups-supply : goal.bounds-groups-supply
bounds-groups-supply c =
    omega (arith, place_of-within (same_name c.as_slice.result.now) c.args.supplies.now c.in-Some.supply (sym c.find.ensures ∙ c.in-Some.is), c.requires.groups)

pub returns-in_ok-put_all-in-Some : goal.returns-in_ok-put_all-in-Some
returns-in_ok-put_all-in-Some c so_far before =
    let found : place_of (same_name c.in-SupplyState.net) c.args.supplies.now ≡ Some c.in-Some.supply =
    ap (λ name. place_of (same_name name) c.args.supplies.now) (sym c.as_slice.ensures.bytes) ∙ sym c.find.ensures ∙ c.in-Some.is in
    map-set-place_of states_in c.in-SupplyState.net so_far c.in-SupplyState.states c.args.supplies.now c.args.groups.now c.in-Some.supply c.index-groups-supply.result c.put_all.new.group c.requires.differ found before c.index-groups-supply.is (c.in_ok-put_all-in-Some.ensures ∙ ap (λ group. states_in group ++ c.as_slice-in-Some.result.now) (sym c.index-groups-supply.is) ∙ ap (λ more. states_in c.index-groups-supply.result ++ more) c.as_slice-in-Some.ensures.items) ∙ ap (λ command. map (λ net. so_far net ++ states_on net command) c.args.supplies.now) (sym c.in-SupplyState.is)

pub returns-in-None : goal.returns-in-None
returns-in-None c so_far before =
    let none : place_of (same_name c.in-SupplyState.net) c.args.supplies.now ≡ None =
    ap (λ name. place_of (same_name name) c.args.supplies.now) (sym c.as_slice.ensures.bytes) ∙ sym c.find.ensures ∙ c.in-None.is in
    before ∙ map-absent c.in-SupplyState.net so_far c.in-SupplyState.states c.args.supplies.now none ∙ ap (λ command. map (λ net. so_far net ++ states_on net command) c.args.supplies.now) (sym c.in-SupplyState.is)
