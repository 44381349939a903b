use Rattle.std.proofs.Common.{◌≡◌, ◌-◌, ◌<◌, ◌≤◌, Some, length, slice_get}
use Rattle.net_instances.specs.declared.numbering.InstanceRow.{InstanceRow}
use Rattle.net_loops.proofs.graphs.next_owner.Given as goal

abbrev pub invariant-loop-owner : goal.invariant-loop-owner
invariant-loop-owner l = record {
  within : l.owner < length l.rows;
  before : ((row : InstanceRow) → slice_get l.rows l.from ≡ Some row → row.first_bit ≤ l.bit) → (row : InstanceRow) → slice_get l.rows l.owner ≡ Some row → row.first_bit ≤ l.bit;
}

abbrev pub decreases-loop-owner : goal.decreases-loop-owner
decreases-loop-owner l = length l.rows - l.owner
