use Rattle.std.proofs.Common.{◌≡◌, ℕ, List, Some, sym, ◌∙◌, subst}
use Rattle.std.proofs.lemmas.Bool.{false≢true}
use Rattle.list_defs.specs.Members.{IsIn}
use Rattle.unit_lists.proofs.GatherLemmas.{plain_whole, switch_whole}
use Rattle.unit_lists.proofs.SetLemmas.{item_is}
use Rattle.unit_lists.proofs.plans.plan_supply.Goals as goal

pub returns-then-not-is_switch_output : goal.returns-then-not-is_switch_output
returns-then-not-is_switch_output c =
    plain_whole c.args.supplies.now c.args.plan.now c.plan_seen.new.plan c.plan_saids.new.plan c.args.number c.index-as_slice-number.result c.as_slice-2.result.now
    (item_is c.args.supplies.now c.as_slice.result.now c.args.number c.index-as_slice-number.result c.as_slice.ensures.items c.index-as_slice-number.is c.requires.there)
    c.as_slice-2.ensures.items (λ switch. false≢true (sym c.if-not-is_switch_output.true ∙ c.is_switch_output.ensures.1 switch)) c.in_ok-plan_seen.ensures
    c.in_ok-plan_saids.ensures

pub plan_inputs-requires-clause-there : goal.plan_inputs-requires-clause-there
plan_inputs-requires-clause-there c = λ input listed.
    let is : _ ≡ Some c.index-as_slice-number.result =
    item_is c.args.supplies.now c.as_slice.result.now c.args.number c.index-as_slice-number.result c.as_slice.ensures.items c.index-as_slice-number.is c.requires.there in
    c.requires.inputs c.args.number c.index-as_slice-number.result is input (let I : List ℕ → Type 0 = λ xs. IsIn input xs in subst I c.as_slice-3.ensures.items listed)

pub returns : goal.returns
returns c =
    switch_whole c.args.supplies.now c.args.plan.now c.plan_seen.new.plan c.plan_saids.new.plan c.plan_inputs.new.plan c.args.number c.index-as_slice-number.result
    c.as_slice-2.result.now c.as_slice-3.result.now
    (item_is c.args.supplies.now c.as_slice.result.now c.args.number c.index-as_slice-number.result c.as_slice.ensures.items c.index-as_slice-number.is c.requires.there)
    c.as_slice-2.ensures.items c.as_slice-3.ensures.items (c.is_switch_output.ensures.0 c.if-not-is_switch_output.false) c.in_ok-plan_seen.ensures
    c.in_ok-plan_saids.ensures c.in_ok-plan_inputs.ensures
