use Rattle.std.proofs.Common.{take}
use Rattle.std.specs.List.{sum_by}
use Rattle.design_rows.specs.View.{size}
use Rattle.net_frames.specs.Feeding.{AreFedBetween}
use Rattle.net_frames.proofs.feeding.feed_all.Given as goal

abbrev pub invariant-loop-inst : goal.invariant-loop-inst
invariant-loop-inst l = AreFedBetween l.rows 0 (sum_by (size l.rows) (take l.inst l.rows.insts)) l.initial.feeds.items l.feeds.items
