use Rattle.std.proofs.Common.{map, take}
use Rattle.pw_defs.specs.declared.cells.Pin.{Pin}
use Rattle.design_defs.specs.Ports.{port_of_pin}
use Rattle.net_places.specs.Mentions.{of_ports}
use Rattle.net_places.specs.Gathered.{HasIndexed}
use Rattle.net_places.proofs.bodies.pin_rows.Given as goal

abbrev pub invariant-loop-number : goal.invariant-loop-number
invariant-loop-number l = HasIndexed (map (λ (p : Pin). p.name) l.pins) l.indexed (of_ports 0 (take l.number (map port_of_pin l.pins)))
