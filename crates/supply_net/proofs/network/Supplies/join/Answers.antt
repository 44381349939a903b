use Rattle.std.proofs.Common.{◌≡◌, List, Some, sym, ap, ◌∙◌, subst}
use Rattle.pw_defs.specs.declared.supplies.Supply.{Supply}
use Rattle.supply_defs.specs.Network.{IsFedBy}
use Rattle.supply_net.specs.Networks.{IsRefused}
use Rattle.supply_net.specs.Parts.{Held, network_of}
use Rattle.supply_net.proofs.NetworkLemmas.{unjoined}
use Rattle.supply_net.proofs.network.Supplies.join.Goals as goal

pub returns-else-other-by : goal.returns-else-other-by
returns-else-other-by c =
    let same : c.self.inside.supplies ≡ c.args.self.now.supplies = ap (λ (h : Held). h.supplies) c.self.view_is in
    let step : IsFedBy c.self.inside.supplies c.args.fed c.in-Some-Some.other =
    sym c.feeder_of.ensures ∙ c.in-Some-Some.is ∙ ap Some c.in-Some-Some.field-0-is in
    let there : IsFedBy c.args.self.now.supplies c.args.fed c.in-Some-Some.other =
    subst (λ (xs : List Supply). IsFedBy xs c.args.fed c.in-Some-Some.other) same step in
    unjoined c.args.fed c.args.by (network_of c.args.self.now) c.refusal.result
    (IsRefused.second c.in-Some-Some.other c.if-fed-by.false there c.if-other-by.false) c.refusal.ensures
