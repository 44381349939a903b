use Rattle.std.proofs.Common.{◌≡◌, ℕ, ◌+◌, ◌++◌, ◌∷◌, [], List, Some, length, take, sym, ap, ◌∙◌, subst, arith}
use Rattle.list_defs.specs.Members.{IsIn}
use Rattle.std.proofs.lemmas.List.{length_push, take_more}
use Rattle.pw_defs.specs.declared.supplies.Supply.{Supply}
use Rattle.supply_net.specs.Networks.{Network, with_supply}
use Rattle.supply_net.specs.Parts.{network_of}
use Rattle.supply_net.specs.Switches.{with_inputs}
use Rattle.supply_net.proofs.SwitchLemmas.{inputs_more, item_in}
use Rattle.supply_net.proofs.network.Supplies.push_inputs.Goals as goal

pub push_made-requires : goal.push_made-requires
push_made-requires c f fed =
    let items = c.as_slice-input-items.result.now in
    let there : IsIn c.input-item.result items = item_in items c.loop-input.input-index c.input-item.result c.loop-input-test.true c.input-item.is in
    let P : List (List ℕ × ℕ) → Type 0 = λ xs. IsIn c.input-item.result xs in
    let within = c.requires c.input-item.result (subst P c.as_slice-input-items.ensures.items there) in
    let feeder : Some c.input-item.result.1 ≡ Some f = sym (ap (λ (s : Supply). s.feeder) c.in_ok-supply.ensures) ∙ fed in
    let same : c.input-item.result.1 ≡ f = cc in
    omega (arith, within, same, c.loop-input.invariant.1)

pub loop-input-preserved : goal.loop-input-preserved
loop-input-preserved c =
    let old = network_of c.args.self.now in
    let items = c.as_slice-input-items.result.now in
    let i = c.loop-input.input-index in
    let switch = c.args.switch.now.name in
    let more : take i items ++ c.input-item.result ∷ [] ≡ take (i + 1) items =
    ap (λ (p : List ℕ × ℕ). take i items ++ p ∷ []) c.input-item.is ∙ sym (take_more items i c.input-item.result c.loop-input-test.true) in (
      c.in_ok-push_made.ensures.ok ∙ ap (λ (w : Network). with_supply w c.args.scope c.in_ok-supply.supply) c.loop-input.invariant.0
          ∙ ap (with_supply (with_inputs old c.args.scope switch (take i items)) c.args.scope) c.in_ok-supply.ensures
          ∙ sym (inputs_more old c.args.scope switch (take i items) c.input-item.result) ∙ ap (with_inputs old c.args.scope switch) more,
      omega (arith, ap (λ (w : Network). length w.supplies) c.in_ok-push_made.ensures.ok, length_push c.loop-input.self.supplies c.in_ok-supply.supply, c.loop-input.invariant.1),
    )
