use Rattle.std.proofs.Common.{arith}
use Rattle.net_frames.proofs.BitFeeds.{all_bits, insts_more, none_fed}
use Rattle.net_frames.proofs.feeding.feed_all.Goals as goal

pub loop-inst-init : goal.loop-inst-init
loop-inst-init c = none_fed c.args.rows.now 0 c.args.feeds.now.items

pub loop-inst-preserved : goal.loop-inst-preserved
loop-inst-preserved c =
    insts_more c.args.rows.now c.requires c.loop-inst.inst (omega (arith, c.len-inst-end.ensures)) c.args.feeds.now.items c.loop-inst.feeds.items c.feed_instance.new.feeds.items
    c.loop-inst.invariant c.in_ok-feed_instance.ensures

pub returns : goal.returns
returns c =
    all_bits c.args.rows.now c.requires c.loop-inst.inst (omega (arith, c.len-inst-end.ensures)) c.args.feeds.now.items c.loop-inst.feeds.items c.loop-inst.invariant
