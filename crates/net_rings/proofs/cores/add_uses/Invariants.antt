use Rattle.std.proofs.Common.{◌≡◌, ◌+◌, ◌<◌, ◌≤◌, ℕ, get_or, length, nat_eq, take}
use Rattle.std.specs.List.{count_by}
use Rattle.net_rings.proofs.cores.add_uses.Given as goal

abbrev pub invariant-loop-source : goal.invariant-loop-source
invariant-loop-source l = record {
  same : length l.uses.items ≡ length l.fn.uses.items;
  counted : (n : ℕ) → n < length l.fn.uses.items → get_or l.fn.uses.items n 0 + count_by (nat_eq n) (take l.source-index l.sources) ≤ get_or l.uses.items n 0;
}
