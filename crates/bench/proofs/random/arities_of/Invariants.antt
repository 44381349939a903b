use Rattle.std.proofs.Common.{◌≡◌, ℕ, ◌<◌, ◌≤◌, length, get_or}
use Rattle.bench.proofs.random.arities_of.Given as goal

abbrev pub invariant-loop-level : goal.invariant-loop-level
invariant-loop-level l = record {
  count : length l.arities.items ≡ l.level;
  each : (v : ℕ) → v < length l.arities.items → (1 ≤ get_or l.arities.items v 0) × (get_or l.arities.items v 0 ≤ 64);
}
