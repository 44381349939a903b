use Rattle.std.proofs.Common.{map, take}
use Rattle.pw_defs.specs.declared.netlist.Port.{Port}
use Rattle.net_places.specs.Mentions.{of_ports}
use Rattle.net_places.specs.Gathered.{HasIndexed}
use Rattle.net_places.proofs.bodies.port_rows.Given as goal

abbrev pub invariant-loop-number : goal.invariant-loop-number
invariant-loop-number l = HasIndexed (map (λ (p : Port). p.name) l.ports) l.indexed (of_ports 0 (take l.number l.ports))
