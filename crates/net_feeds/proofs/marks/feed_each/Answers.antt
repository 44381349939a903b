use Rattle.std.proofs.Common.{List, ◌++◌, subst, take}
use Rattle.std.proofs.lemmas.List.{take_all}
use Rattle.net_feeds.specs.declared.links.LinkAt.{LinkAt}
use Rattle.net_feeds.specs.Marked.{AreFed}
use Rattle.net_feeds.proofs.Marking.{fed_next}
use Rattle.net_feeds.proofs.marks.feed_each.Goals as goal

pub loop-link-preserved : goal.loop-link-preserved
loop-link-preserved c given before are =
    fed_next given before c.args.links.now c.loop-link.link-index _ c.feed.new.marks c.loop-link-test.true
    (c.in_ok-feed.ensures c.if-not-branch.false given (before ++ take c.loop-link.link-index c.args.links.now) (c.loop-link.invariant given before are))

pub returns : goal.returns
returns c free given before are =
    subst (λ (ls : List LinkAt). AreFed given (before ++ ls) c.loop-link.marks) (take_all c.loop-link.link-index c.args.links.now c.loop-link-test.false)
    (c.loop-link.invariant given before are)
