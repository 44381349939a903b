use Rattle.std.proofs.Common.{map, refl}
use Rattle.state_meets.proofs.Padding.{begins_padded}
use Rattle.state_meets.proofs.plans.plan_of.Goals as goal

pub returns : goal.returns
returns c =
    let spread = c.in_ok-begun.ensures in
    record {
      which_is = refl;
      right = record { count = spread.count; begun = spread.begun_in };
      spread = spread;
      low = c.row_of-row.ensures.low;
      begins = begins_padded c.row_of-row.result.before (map (λ numbers. numbers.items) c.in_ok-begun.begun.items) c.row_of-row.result.behind;
    }
