use Rattle.design_rows.specs.View.{inst_at}
use Rattle.net_frames.proofs.BitFeeds.{bits_more, no_bits}
use Rattle.net_frames.proofs.feeding.feed_instance.Goals as goal

pub loop-at-init : goal.loop-at-init
loop-at-init c = no_bits c.args.rows.now (inst_at c.args.rows.now c.args.inst).first_bit c.args.feeds.now.items

pub loop-at-preserved : goal.loop-at-preserved
loop-at-preserved c =
    bits_more c.args.rows.now (inst_at c.args.rows.now c.args.inst).first_bit c.loop-at.at c.args.feeds.now.items c.loop-at.feeds.items c.feed_bit.new.feeds.items
    c.loop-at.invariant c.in_ok-feed_bit.ensures
