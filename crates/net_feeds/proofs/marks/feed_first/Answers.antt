use Rattle.std.proofs.Common.{List, ◌++◌, ◌∙◌, ap, subst, sym}
use Rattle.net_feeds.specs.declared.links.LinkAt.{LinkAt}
use Rattle.net_feeds.specs.LinkNumbers.{links_before}
use Rattle.net_feeds.specs.Marked.{AreFed}
use Rattle.net_feeds.proofs.RowLinks.{before_more}
use Rattle.net_feeds.proofs.marks.feed_first.Goals as goal

pub loop-inst-preserved : goal.loop-inst-preserved
loop-inst-preserved c given are =
    let before = links_before c.args.links.now c.args.instances.now c.loop-inst.inst in
    subst (λ (ls : List LinkAt). AreFed given ls c.feed_each.new.marks)
    (ap (λ rest. before ++ rest) (c.as_slice.ensures.value ∙ c.in_ok-links_at.ensures) ∙ sym (before_more c.args.links.now c.args.instances.now c.loop-inst.inst))
    (c.in_ok-feed_each.ensures c.if-not-branch.false given before (c.loop-inst.invariant given are))
