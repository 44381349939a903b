use Rattle.std.proofs.Common.{◌≡◌, map, take}
use Rattle.module_rows.specs.View.{port_of}
use Rattle.module_rows.proofs.tables.Rows.plain_ports.Given as goal

abbrev pub invariant-loop-row : goal.invariant-loop-row
invariant-loop-row l = l.ports ≡ map (port_of l.self.terms) (take l.row-index l.rows)
