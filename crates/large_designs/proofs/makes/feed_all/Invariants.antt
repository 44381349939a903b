use Rattle.std.proofs.Common.{◌≡◌, length}
use Rattle.design_rows.specs.Sound.{AreRows}
use Rattle.large_designs.proofs.makes.feed_all.Given as goal

abbrev pub invariant-loop-n : goal.invariant-loop-n
invariant-loop-n l = record {
  rows : AreRows l.rows;
  count : length l.rows.feeds.items ≡ l.n-end;
}
