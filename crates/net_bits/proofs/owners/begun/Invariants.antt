use Rattle.std.proofs.Common.{◌-◌, ◌≤◌, length}
use Rattle.net_instances.specs.declared.numbering.InstanceRow.{InstanceRow}
use Rattle.net_bits.proofs.Beginnings.{IsBetween}
use Rattle.net_bits.proofs.owners.begun.Given as goal

abbrev pub invariant-loop-low : goal.invariant-loop-low
invariant-loop-low l = record {
  rises : l.low ≤ l.high;
  within : l.high ≤ length l.rows;
  between : IsBetween (λ (row : InstanceRow). row.first_bit) l.rows l.bit l.low l.high;
}

abbrev pub decreases-loop-low : goal.decreases-loop-low
decreases-loop-low l = l.high - l.low
