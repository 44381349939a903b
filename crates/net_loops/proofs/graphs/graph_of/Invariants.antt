use Rattle.std.proofs.Common.{◌≡◌, ◌<◌, ◌≤◌, ℕ, [], Some, get_or, length, slice_get}
use Rattle.net_instances.specs.declared.numbering.InstanceRow.{InstanceRow}
use Rattle.net_loops.specs.Graphs.{BeginsFirst, IsGraphRow}
use Rattle.net_loops.proofs.graphs.graph_of.Given as goal

abbrev pub invariant-loop-bit : goal.invariant-loop-bit
invariant-loop-bit l = record {
  within : l.owner < length l.instances.rows;
  count : length l.graph ≡ l.bit;
  before : BeginsFirst l.instances.rows → (row : InstanceRow) → slice_get l.instances.rows l.owner ≡ Some row → row.first_bit ≤ l.bit;
  each : BeginsFirst l.instances.rows → (k : ℕ) → k < l.bit → IsGraphRow l.instances.rows l.inner l.feeds k (get_or l.graph k []);
}
