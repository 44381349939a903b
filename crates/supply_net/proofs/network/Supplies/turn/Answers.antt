use Rattle.supply_net.proofs.HeldLemmas.{turned_held}
use Rattle.supply_net.proofs.network.Supplies.turn.Goals as goal

pub invariant_of-self : goal.invariant_of-self
invariant_of-self c =
    turned_held c.self.inside.supplies c.set_kind.new.supplies c.self.inside.above.items c.in-Some.number c.port_kind.result c.self.invariant c.set_kind.ensures
