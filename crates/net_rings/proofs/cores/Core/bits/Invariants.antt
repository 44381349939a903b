use Rattle.std.proofs.Common.{◌↔◌, ◌<◌, ℕ}
use Rattle.list_defs.specs.Members.{IsIn}
use Rattle.net_rings.specs.Fed.{IsThere}
use Rattle.net_rings.proofs.cores.Core.bits.Given as goal

abbrev pub invariant-loop-bit : goal.invariant-loop-bit
invariant-loop-bit l = (n : ℕ) → IsIn n l.bits.items ↔ ((n < l.bit) × IsThere l.self.rows.bits.items n)
