use Rattle.std.proofs.Common.{◌≡◌, Option, Some, sym, ◌∙◌, subst}
use Rattle.supply_net.specs.declared.names.Object.{Object}
use Rattle.supply_net.specs.Names.{object_in, scoped}
use Rattle.supply_net.specs.Networks.{Makes, after_net_at}
use Rattle.supply_net.specs.Parts.{network_of}
use Rattle.supply_net.proofs.network.Supplies.add_net.Goals as goal

pub returns-in-Some : goal.returns-in-Some
returns-in-Some c =
    let there : Some c.in-Some.object ≡ object_in c.args.self.now.names (scoped c.args.scope c.args.name.now) = sym c.in-Some.is ∙ c.in_ok-object.ensures in
    subst
    (λ (o : Option Object). Makes (after_net_at (network_of c.args.self.now) c.args.scope c.args.name.now o) c.args.name.now (network_of c.args.self.now) (network_of c.args.self.now) c.keep.result)
    there (c.keep.ensures c.args.scope)
