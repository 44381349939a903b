use Rattle.std.proofs.Common.{ℕ, List, take}
use Rattle.list_defs.specs.Members.{IsIn}
use Rattle.net_names.specs.Apart.{GoesOn, port_names}
use Rattle.net_names.proofs.bodies.has_bracketed.Given as goal

abbrev pub invariant-loop-port : goal.invariant-loop-port
invariant-loop-port l = (name front : List ℕ) → IsIn name (port_names (take l.port-index l.ports)) → GoesOn 91 front name → IsIn front l.index → ⊥
