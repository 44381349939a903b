use Rattle.std.proofs.Common.{ℕ, List, take}
use Rattle.net_names.specs.Apart.{port_names}
use Rattle.list_defs.specs.Members.{IsIn}
use Rattle.module_rows.specs.Reads.{module_at}
use Rattle.net_names.specs.Bodies.{AreFree}
use Rattle.net_names.proofs.bodies.has_longer_port.Given as goal

abbrev pub invariant-loop-number : goal.invariant-loop-number
invariant-loop-number l = (name : List ℕ) → IsIn name (port_names (take l.number (module_at l.modules l.holder).ports)) → AreFree l.modules.symbols l.marks l.stamp name
