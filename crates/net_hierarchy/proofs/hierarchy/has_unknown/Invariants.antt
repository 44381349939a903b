use Rattle.std.proofs.Common.{drop}
use Rattle.net_hierarchy.specs.Graph.{HasUnknown}
use Rattle.net_hierarchy.proofs.hierarchy.has_unknown.Given as goal

abbrev pub invariant-loop-number : goal.invariant-loop-number
invariant-loop-number l = HasUnknown l.types l.order → HasUnknown l.types (drop l.number-index l.order)
