use Rattle.std.proofs.Common.{◌≡◌, take}
use Rattle.net_feeds.proofs.marks.first_marks.Given as goal

abbrev pub invariant-loop-mark : goal.invariant-loop-mark
invariant-loop-mark l = l.taken.items ≡ take l.mark-index l.given
