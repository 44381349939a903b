use Rattle.std.proofs.Common.{take}
use Rattle.unit_lists.specs.Roots.{AddsEnds}
use Rattle.unit_lists.proofs.roots.add_ends.Given as goal

abbrev pub invariant-loop-port : goal.invariant-loop-port
invariant-loop-port l = AddsEnds l.supplies l.initial.roots l.roots l.unit (take l.port-index l.ports)
