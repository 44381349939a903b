use Rattle.std.proofs.Common.{ℕ, List, take}
use Rattle.list_defs.specs.Members.{IsIn}
use Rattle.probe.proofs.model_bits.index_of.Given as goal

abbrev pub invariant-loop-name : goal.invariant-loop-name
invariant-loop-name l = (name : List ℕ) → IsIn name l.index → IsIn name (take l.name-index l.names)
