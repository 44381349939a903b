use Rattle.std.proofs.Common.{take}
use Rattle.net_feeds.specs.Seconds.{AreSeen}
use Rattle.net_feeds.proofs.seconds.seconds_of.Given as goal

abbrev pub invariant-loop-link : goal.invariant-loop-link
invariant-loop-link l = AreSeen l.taken (take l.link-index l.links) l.seen
