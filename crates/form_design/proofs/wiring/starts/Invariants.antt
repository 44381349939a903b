use Rattle.std.proofs.Common.{◌≡◌, ◌+◌, ◌++◌, ◌≤◌, drop, sum_by}
use Rattle.form_design.specs.Hierarchy.{size, starts_from}
use Rattle.form_design.proofs.wiring.starts.Given as goal

-- the numbers so far and those of the instances that are left are all; the total is that of the instances so far
abbrev pub invariant-loop-held : goal.invariant-loop-held
invariant-loop-held l = record {
  starts : l.starts.items ++ starts_from l.names l.total (drop l.held-index l.helds) ≡ starts_from l.names 0 l.helds;
  total : l.total + sum_by (size l.names) (drop l.held-index l.helds) ≡ sum_by (size l.names) l.helds;
  few : l.total ≤ 8000000;
}
