use Rattle.std.proofs.Common.{◌≡◌, take}
use Rattle.net_names.specs.Apart.{port_names}
use Rattle.net_names.proofs.bodies.port_index.Given as goal

abbrev pub invariant-loop-port : goal.invariant-loop-port
invariant-loop-port l = l.index ≡ port_names (take l.port-index l.ports)
