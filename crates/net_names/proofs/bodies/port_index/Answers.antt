use Rattle.std.proofs.Common.{ap, ◌∙◌}
use Rattle.std.proofs.lemmas.List.{take_all}
use Rattle.net_names.specs.Apart.{port_names}
use Rattle.net_names.proofs.bodies.port_index.Goals as goal

pub returns : goal.returns
returns c = c.loop-port.invariant ∙ ap port_names (take_all c.loop-port.port-index c.args.ports.now c.loop-port-test.false)
