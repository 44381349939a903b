use Rattle.std.proofs.Common.{List, subst, sym}
use Rattle.std.proofs.lemmas.List.{take_all, take_more}
use Rattle.net_feeds.specs.declared.links.LinkAt.{LinkAt}
use Rattle.net_feeds.specs.Seconds.{AreSeconds, AreSeen}
use Rattle.net_feeds.proofs.seconds.seconds_of.Goals as goal

pub loop-link-preserved : goal.loop-link-preserved
loop-link-preserved c =
    subst (λ (ls : List LinkAt). AreSeen c.args.taken.now ls c.see.new.seen) (sym (take_more c.args.links.now c.loop-link.link-index _ c.loop-link-test.true))
    (c.in_ok-see.ensures _ c.loop-link.invariant)

pub returns : goal.returns
returns c =
    subst (λ (ls : List LinkAt). AreSeconds c.args.taken.now ls c.loop-link.seen.found) (take_all c.loop-link.link-index c.args.links.now c.loop-link-test.false) c.loop-link.invariant.found
