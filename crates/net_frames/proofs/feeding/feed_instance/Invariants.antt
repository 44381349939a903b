use Rattle.std.proofs.Common.{◌+◌}
use Rattle.design_rows.specs.View.{inst_at}
use Rattle.net_frames.specs.Feeding.{AreFedBetween}
use Rattle.net_frames.proofs.feeding.feed_instance.Given as goal

abbrev pub invariant-loop-at : goal.invariant-loop-at
invariant-loop-at l = AreFedBetween l.rows (inst_at l.rows l.inst).first_bit ((inst_at l.rows l.inst).first_bit + l.at) l.initial.feeds.items l.feeds.items
