use Rattle.std.proofs.Common.{◌≡◌, ◌+◌, ◌-◌, ◌≤◌}
use Rattle.std.specs.List.{range_with_len}
use Rattle.design_rows.proofs.ordered.inner_insts.Given as goal

abbrev pub invariant-loop-n : goal.invariant-loop-n
invariant-loop-n l = record {
  made : l.inner.items ≡ range_with_len 1 (l.n - 1);
  inner : 1 ≤ l.n;
  near : l.n ≤ l.len + 1;
}
