use Rattle.std.proofs.Common.{◌≡◌, ◌≤◌, true, ◌∙◌, ap, arith, filter, length, map, refl}
use Rattle.std.specs.List.{list_all}
use Rattle.std.proofs.lemmas.List.{take_all}
use Rattle.std.proofs.lemmas.List.Elements.{recursion_from_All}
use Rattle.std.proofs.lemmas.List.Recursion.{and_from_places}
use Rattle.pw_defs.specs.Values.{value_cmp}
use Rattle.pw_defs.specs.declared.conditions.Cond.TheVariants.{True}
use Rattle.pw_defs.specs.declared.values.State.{State}
use Rattle.list_defs.specs.Orders.{IsRising}
use Rattle.supply_defs.specs.Conditions.{speaks_below}
use Rattle.supply_defs.specs.States.{all_states, legal_states, meets}
use Rattle.state_lists.proofs.InOrder.{legal_rising}
use Rattle.state_lists.proofs.Membership.{in_legal_states}
use Rattle.state_lists.proofs.Numbering.{length-all_states}
use Rattle.state_lists.proofs.listing.legal.Goals as goal

pub all_hold-requires : goal.all_hold-requires
all_hold-requires c =
    let speaks = speaks_below (length c.args.lists.now) in
    let all : list_all speaks c.args.conds.now ≡ true = and_from_places (list_all speaks) speaks refl (λ _ _. refl) c.args.conds.now True (λ i inside. c.requires i True inside) in
    rw (c.as_slice.ensures.items, c.in_ok-values.ensures.length) all

-- past the last number the states so far are all
states_made : (c : goal.After-loop-number) → map (λ (s : State). s.values) c.loop-number.states ≡ legal_states c.args.lists.now c.args.conds.now
states_made c =
    let enough : length (all_states c.args.lists.now) ≤ c.loop-number.number = omega (arith, length-all_states c.args.lists.now) in
    c.loop-number.invariant ∙ ap (filter (meets c.args.conds.now)) (take_all c.loop-number.number (all_states c.args.lists.now) enough)

pub returns-clause-states : goal.returns-clause-states
returns-clause-states c = states_made c

pub returns-clause-legal : goal.returns-clause-legal
returns-clause-legal c = rw (states_made c) (in_legal_states c.args.lists.now c.args.conds.now)

pub returns-clause-order : goal.returns-clause-order
returns-clause-order c = λ rises.
    rw (states_made c) (legal_rising c.args.lists.now c.args.conds.now (recursion_from_All (IsRising value_cmp) c.args.lists.now rises))
