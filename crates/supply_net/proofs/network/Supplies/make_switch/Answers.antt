-- The network of a switch, made step by step.
use Rattle.std.proofs.Common.{◌≡◌, length, sym, ap, ◌∙◌, subst, arith}
use Rattle.std.proofs.lemmas.List.{length_push}
use Rattle.supply_defs.specs.Network.{IsUnfed}
use Rattle.supply_net.specs.Networks.{Network}
use Rattle.supply_net.specs.Parts.{Held, network_of}
use Rattle.supply_net.specs.Switches.{output_of, with_inputs, with_link}
use Rattle.supply_net.proofs.SwitchLemmas.{made_output, ports_count, ports_unfed, with_ports}
use Rattle.supply_net.proofs.network.Supplies.make_switch.Goals as goal

pub push_inputs-requires : goal.push_inputs-requires
push_inputs-requires c p there =
    let old = network_of c.args.self.now in
    let t = c.args.switch.now in
    let number : c.len-number.result ≡ length c.args.self.now.supplies = c.len-number.ensures ∙ ap (λ (h : Held). length h.supplies) c.self.view_is in
    let made = made_output old (network_of c.name_switch.new.self) (network_of c.push_made.new.self) c.args.scope t c.in_ok-output.output c.len-number.result
    c.in_ok-name_switch.ensures c.in_ok-output.ensures number c.in_ok-push_made.ensures.ok in
    let count = ap (λ (w : Network). length w.supplies) made in
    omega (arith, count, length_push old.supplies (output_of t (length old.supplies)), c.requires.inputs p there)

pub link-requires-clause-fed : goal.link-requires-clause-fed
link-requires-clause-fed c =
    let old = network_of c.args.self.now in
    let t = c.args.switch.now in
    let number : c.len-number.result ≡ length c.args.self.now.supplies = c.len-number.ensures ∙ ap (λ (h : Held). length h.supplies) c.self.view_is in
    let made = made_output old (network_of c.name_switch.new.self) (network_of c.push_made.new.self) c.args.scope t c.in_ok-output.output c.len-number.result
    c.in_ok-name_switch.ensures c.in_ok-output.ensures number c.in_ok-push_made.ensures.ok in
    let ports : network_of c.push_inputs.new.self ≡ with_ports old c.args.scope t =
    c.in_ok-push_inputs.ensures ∙ ap (λ (w : Network). with_inputs w c.args.scope t.name t.inputs) made in
    omega (arith, ap (λ (w : Network). length w.supplies) ports, ports_count old c.args.scope t, c.requires.output)

pub link-requires-clause-by : goal.link-requires-clause-by
link-requires-clause-by c =
    let old = network_of c.args.self.now in
    let t = c.args.switch.now in
    let number : c.len-number.result ≡ length c.args.self.now.supplies = c.len-number.ensures ∙ ap (λ (h : Held). length h.supplies) c.self.view_is in
    let made = made_output old (network_of c.name_switch.new.self) (network_of c.push_made.new.self) c.args.scope t c.in_ok-output.output c.len-number.result
    c.in_ok-name_switch.ensures c.in_ok-output.ensures number c.in_ok-push_made.ensures.ok in
    let ports : network_of c.push_inputs.new.self ≡ with_ports old c.args.scope t =
    c.in_ok-push_inputs.ensures ∙ ap (λ (w : Network). with_inputs w c.args.scope t.name t.inputs) made in
    omega (arith, ap (λ (w : Network). length w.supplies) ports, ports_count old c.args.scope t, number)

pub link-requires-clause-apart : goal.link-requires-clause-apart
link-requires-clause-apart c = λ same.
    let number : c.len-number.result ≡ length c.args.self.now.supplies = c.len-number.ensures ∙ ap (λ (h : Held). length h.supplies) c.self.view_is in
    omega (arith, same, number, c.requires.output)

pub link-requires-clause-unfed : goal.link-requires-clause-unfed
link-requires-clause-unfed c =
    let old = network_of c.args.self.now in
    let t = c.args.switch.now in
    let number : c.len-number.result ≡ length c.args.self.now.supplies = c.len-number.ensures ∙ ap (λ (h : Held). length h.supplies) c.self.view_is in
    let made = made_output old (network_of c.name_switch.new.self) (network_of c.push_made.new.self) c.args.scope t c.in_ok-output.output c.len-number.result
    c.in_ok-name_switch.ensures c.in_ok-output.ensures number c.in_ok-push_made.ensures.ok in
    let ports : network_of c.push_inputs.new.self ≡ with_ports old c.args.scope t =
    c.in_ok-push_inputs.ensures ∙ ap (λ (w : Network). with_inputs w c.args.scope t.name t.inputs) made in
    subst (λ (w : Network). IsUnfed w.supplies t.output.1) (sym ports) (ports_unfed old c.args.scope t t.output.1 c.requires.unfed)

pub returns-clause-made : goal.returns-clause-made
returns-clause-made c =
    let old = network_of c.args.self.now in
    let t = c.args.switch.now in
    let number : c.len-number.result ≡ length c.args.self.now.supplies = c.len-number.ensures ∙ ap (λ (h : Held). length h.supplies) c.self.view_is in
    let made = made_output old (network_of c.name_switch.new.self) (network_of c.push_made.new.self) c.args.scope t c.in_ok-output.output c.len-number.result
    c.in_ok-name_switch.ensures c.in_ok-output.ensures number c.in_ok-push_made.ensures.ok in
    let ports : network_of c.push_inputs.new.self ≡ with_ports old c.args.scope t =
    c.in_ok-push_inputs.ensures ∙ ap (λ (w : Network). with_inputs w c.args.scope t.name t.inputs) made in
    c.in_ok-link.ensures ∙ ap (λ (w : Network). with_link w t.output.1 c.len-number.result) ports
    ∙ ap (with_link (with_ports old c.args.scope t) t.output.1) number
