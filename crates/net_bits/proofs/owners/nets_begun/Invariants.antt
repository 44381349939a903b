use Rattle.std.proofs.Common.{◌-◌, ◌≤◌}
use Rattle.net_places.specs.Plans.{rows_at}
use Rattle.net_places.specs.declared.rows.NetRow.{NetRow}
use Rattle.net_bits.proofs.Beginnings.{IsBetween}
use Rattle.net_bits.proofs.owners.nets_begun.Given as goal

abbrev pub invariant-loop-low : goal.invariant-loop-low
invariant-loop-low l = record {
  rises : l.low ≤ l.high;
  between : IsBetween (λ (row : NetRow). row.first) (rows_at l.plans l.body) l.bit l.low l.high;
}

abbrev pub decreases-loop-low : goal.decreases-loop-low
decreases-loop-low l = l.high - l.low
