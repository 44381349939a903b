use Rattle.std.proofs.Common.{[], take, get_or, refl}
use Rattle.unit_lists.proofs.RootLemmas.{adds_none, adds_port, more_in_ports}
use Rattle.unit_lists.proofs.roots.add_ends.Goals as goal

pub loop-port-init : goal.loop-port-init
loop-port-init c = adds_none c.args.supplies.now c.args.roots.now c.args.unit [] refl

pub loop-port-preserved : goal.loop-port-preserved
loop-port-preserved c =
    let i = c.loop-port.port-index in
    let ports = c.args.ports.now in
    adds_port c.args.supplies.now c.args.roots.now c.loop-port.roots c.insert.new.self c.args.unit (get_or ports i 0) (take i ports) _ c.loop-port.invariant
    (more_in_ports c.args.supplies.now ports i c.is_in_port.result c.loop-port-test.true c.is_in_port.ensures c.if-not-is_in_port.false) c.in_ok-insert.ensures.updates.0
