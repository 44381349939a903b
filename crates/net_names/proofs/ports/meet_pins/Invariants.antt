use Rattle.std.proofs.Common.{◌≡◌, map, take}
use Rattle.design_defs.specs.Ports.{port_of_pin}
use Rattle.net_names.specs.Meets.{met_all, ports_at}
use Rattle.net_names.proofs.ports.meet_pins.Given as goal

abbrev pub invariant-loop-pin : goal.invariant-loop-pin
invariant-loop-pin l = l.meeting ≡ met_all l.initial.meeting (ports_at l.place l.path (map port_of_pin (take l.pin-index l.pins)))
