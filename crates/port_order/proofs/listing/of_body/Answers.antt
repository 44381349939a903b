use Rattle.std.proofs.Common.{◌++◌, ◌∷◌, [], ap, ◌∙◌}
use Rattle.port_order.specs.declared.keys.PortNumber.{PortNumber}
use Rattle.port_order.proofs.ListingLemmas.{next_number}
use Rattle.port_order.proofs.listing.of_body.Goals as goal

pub loop-port-preserved : goal.loop-port-preserved
loop-port-preserved c =
    let number : PortNumber = record { body = c.args.body; port = c.loop-port.port } in
    c.in_ok-push.ensures.items ∙ ap (λ numbers. numbers ++ number ∷ []) c.loop-port.invariant ∙ next_number c.args.body c.args.numbers.now.items c.loop-port.port
