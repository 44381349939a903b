use Rattle.std.proofs.Common.{◌≡◌, ◌<◌, ◌≤◌, ℕ, get_or, length, take}
use Rattle.std.specs.List.{sum_by}
use Rattle.net_rings.specs.Peeled.{uses_in}
use Rattle.net_rings.proofs.cores.uses_of.Given as goal

abbrev pub invariant-loop-bit : goal.invariant-loop-bit
invariant-loop-bit l = record {
  all_bits : length l.uses.items ≡ length l.rows.bits.items;
  each : (n : ℕ) → n < length l.uses.items → sum_by (uses_in l.rows.sources.items n) (take l.bit l.rows.bits.items) ≤ get_or l.uses.items n 0;
}
