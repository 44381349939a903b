use Rattle.std.proofs.Common.{◌≤◌, ◌-◌, length}
use Rattle.net_places.specs.Finding.{IsSplit, PassesInFront, names_among, row_before}
use Rattle.net_places.specs.Plans.{rows_at}
use Rattle.net_places.proofs.plans.Plans.before.Given as goal

abbrev pub invariant-loop-low : goal.invariant-loop-low
invariant-loop-low l =
    let rows = rows_at l.self l.body in
    let test = row_before (names_among l.spellings.modules.now l.spellings.cells.now l.spellings.models.now l.body) rows l.name in
    record {
      ends : l.low ≤ l.high;
      within : l.high ≤ length rows;
      split : PassesInFront test (length rows) → IsSplit test (length rows) l.low l.high;
    }

abbrev pub decreases-loop-low : goal.decreases-loop-low
decreases-loop-low l = l.high - l.low
