use Rattle.std.proofs.Common.{◌≡◌, take}
use Rattle.net_names.specs.Meets.{met_all, ports_at}
use Rattle.net_names.proofs.ports.meet_ports.Given as goal

abbrev pub invariant-loop-port : goal.invariant-loop-port
invariant-loop-port l = l.meeting ≡ met_all l.initial.meeting (ports_at l.place l.path (take l.port-index l.ports))
