use Rattle.std.proofs.Common.{List, Bool, ◌++◌, take}
use Rattle.net_feeds.specs.declared.links.LinkAt.{LinkAt}
use Rattle.net_feeds.specs.Marked.{AreFed}
use Rattle.net_feeds.proofs.marks.feed_each.Given as goal

abbrev pub invariant-loop-link : goal.invariant-loop-link
invariant-loop-link l = (given : List Bool) → (before : List LinkAt) → AreFed given before l.initial.marks → AreFed given (before ++ take l.link-index l.links) l.marks
