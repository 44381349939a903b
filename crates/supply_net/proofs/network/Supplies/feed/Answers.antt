use Rattle.std.proofs.Common.{◌≡◌, ◌<◌, List, length, refl, sym, ap, subst}
use Rattle.pw_defs.specs.declared.supplies.Supply.{Supply}
use Rattle.supply_defs.specs.Network.{IsUnfed}
use Rattle.supply_net.specs.Networks.{IsJoined, with_feeder, with_supplies}
use Rattle.supply_net.specs.Parts.{Held, network_of}
use Rattle.supply_net.proofs.FeederLemmas.{no_way}
use Rattle.supply_net.proofs.HeldLemmas.{fed_held}
use Rattle.supply_net.proofs.NetworkLemmas.{same_network}
use Rattle.supply_net.proofs.network.Supplies.feed.Goals as goal

pub invariant_of-self-2 : goal.invariant_of-self-2
invariant_of-self-2 c =
    let S = c.self.inside.supplies in
    let same : S ≡ c.args.self.now.supplies = ap (λ (h : Held). h.supplies) c.self.view_is in
    let unfed : IsUnfed S c.args.fed = subst (λ (xs : List Supply). IsUnfed xs c.args.fed) (sym same) c.requires.unfed in
    let there : c.args.by < length S = subst (λ (xs : List Supply). c.args.by < length xs) (sym same) c.requires.by in
    fed_held S c.set_feeder.new.supplies c.top_of.new.above.items c.args.fed c.args.by c.self.invariant.feeders c.top_of.ensures.above c.set_feeder.ensures
    unfed c.requires.apart there (no_way S c.args.by c.args.fed c.in_ok-top.top c.in_ok-top.ensures.top c.if-top-fed.false unfed)

pub returns : goal.returns
returns c =
    let S = c.self.inside.supplies in
    let same : S ≡ c.args.self.now.supplies = ap (λ (h : Held). h.supplies) c.self.view_is in
    let unfed : IsUnfed S c.args.fed = subst (λ (xs : List Supply). IsUnfed xs c.args.fed) (sym same) c.requires.unfed in
    let old : Held = record { supplies = S; sets = c.self.inside.sets; names = c.self.inside.names } in
    let new : Held = record { supplies = c.set_feeder.new.supplies; sets = c.self.inside.sets; names = c.self.inside.names } in
    let made : network_of new ≡ with_supplies (network_of old) (with_feeder S c.args.fed c.args.by) =
    same_network (network_of new) (with_supplies (network_of old) (with_feeder S c.args.fed c.args.by)) c.set_feeder.ensures refl refl in
    subst (λ (h : Held). IsJoined c.args.fed c.args.by (network_of h) (network_of new)) c.self.view_is
    (IsJoined.linked c.requires.apart unfed (no_way S c.args.by c.args.fed c.in_ok-top.top c.in_ok-top.ensures.top c.if-top-fed.false unfed) made)
