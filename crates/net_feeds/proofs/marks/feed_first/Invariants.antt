use Rattle.std.proofs.Common.{List, Bool, []}
use Rattle.net_feeds.specs.LinkNumbers.{links_before}
use Rattle.net_feeds.specs.Marked.{AreFed}
use Rattle.net_feeds.proofs.marks.feed_first.Given as goal

abbrev pub invariant-loop-inst : goal.invariant-loop-inst
invariant-loop-inst l = (given : List Bool) → AreFed given [] l.initial.marks → AreFed given (links_before l.links l.instances l.inst) l.marks
