use Rattle.std.proofs.Common.{◌≡◌, ◌+◌, ◌-◌, ◌≤◌, ◌++◌, replicate, vec_len}
use Rattle.std.specs.Vec.{vec_capacity}
use Rattle.design_rows.specs.View.{no_feed}
use Rattle.design_rows.proofs.building.fill.Given as goal

abbrev pub invariant-loop : goal.invariant-loop
invariant-loop l = record {
  filled : l.feeds.items ≡ l.initial.feeds.items ++ replicate l.counter no_feed;
  room : vec_len l.feeds + (l.count - l.counter) ≤ vec_capacity l.feeds;
}
