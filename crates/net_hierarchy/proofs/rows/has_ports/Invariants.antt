use Rattle.std.proofs.Common.{◌≡◌, take}
use Rattle.module_rows.specs.Reads.{module_at}
use Rattle.net_hierarchy.proofs.rows.has_ports.Given as goal

abbrev pub invariant-loop-place : goal.invariant-loop-place
invariant-loop-place l = take l.place l.ports ≡ take l.place (module_at l.modules l.number).ports
