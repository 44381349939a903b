use Rattle.net_feeds.specs.TopInputs.{AreMarkedAlso, IsInputBitOf}
use Rattle.net_feeds.proofs.tops.mark_nets.Given as goal

abbrev pub invariant-loop-net : goal.invariant-loop-net
invariant-loop-net l = AreMarkedAlso (IsInputBitOf l.modules l.plans l.holder l.net) l.initial.marks.items l.marks.items
