use Rattle.net_feeds.proofs.TopMarks.{nets_more, nets_none}
use Rattle.net_feeds.proofs.tops.mark_nets.Goals as goal

pub loop-net-init : goal.loop-net-init
loop-net-init c = nets_none c.args.modules.now c.args.plans.now c.args.holder c.args.marks.now.items

pub loop-net-preserved : goal.loop-net-preserved
loop-net-preserved c =
    nets_more c.args.modules.now c.args.plans.now c.args.holder c.loop-net.net c.args.marks.now.items c.loop-net.marks.items c.mark_net.new.marks.items c.loop-net.invariant c.mark_net.ensures
