use Rattle.std.proofs.Common.{ℕ, List, ap, ◌∙◌, arith}
use Rattle.std.specs.List.{list_any}
use Rattle.std.proofs.lemmas.Grind.{common_steps}
use Rattle.list_defs.specs.Members.{same_name}
use Rattle.supply_net.specs.Switches.{named_inputs}
use Rattle.supply_net.proofs.SwitchLemmas.{found_is, named_step}
use Rattle.supply_net.proofs.switches.named_inputs.Goals as goal
use Rattle.supply_net.proofs.switches.named_inputs.Goals.{then-is_some+in_ok-push, else-is_some}

pub loop-input-preserved : goal.loop-input-preserved
loop-input-preserved c =
    let t = c.args.switch.now in
    let items = c.as_slice-input-items.result.now in
    named_step t.on c.loop-input.numbers c.if-is_some.numbers c.loop-input.number c.in_ok-number.number items c.loop-input.input-index c.input-item.result c.is_some.result
    (named_inputs t.on c.args.first t.inputs) c.loop-input.invariant c.loop-input-test.true c.input-item.is
    (c.is_some.ensures ∙ found_is c.in_ok-on.on t.on c.as_slice.result.now c.find.result c.find.ensures (c.in_ok-on.ensures c.as_slice.result.now)
    ∙ ap (λ (x : List ℕ). list_any (same_name x) t.on) c.as_slice.ensures.bytes)
    (grind (arith, common_steps))
    (λ yes. elim c.if-is_some.branch [ then-is_some+in_ok-push w ↦ w.numbers-is ∙ w.in_ok-push.ensures.ok | else-is_some w ↦ cc ])
    (λ no. elim c.if-is_some.branch [ then-is_some+in_ok-push w ↦ cc | else-is_some w ↦ w.numbers-is ])
