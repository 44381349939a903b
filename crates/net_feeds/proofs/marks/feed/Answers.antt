use Rattle.std.proofs.Common.{subst}
use Rattle.net_feeds.proofs.Marking.{fed_more, unfed_more}
use Rattle.net_feeds.specs.Marked.{IsTaken}
use Rattle.net_feeds.proofs.marks.feed.Goals as goal

pub returns-in_ok-free-in-Some : goal.returns-in_ok-free-in-Some
returns-in_ok-free-in-Some c free given links are =
    fed_more given links c.args.link c.in-Some.bit c.args.marks.now c.take.new.marks c.in-Some.is
    (subst (λ f. IsTaken c.in-Some.bit f c.args.marks.now c.take.new.marks) c.feed_of.ensures (c.in_ok-free-in-Some.ensures free)) are

pub returns-in-None : goal.returns-in-None
returns-in-None c free given links are = unfed_more given links c.args.link c.args.marks.now c.in-None.is are
