use Rattle.std.specs.List.{flat_map, slice_range}
use Rattle.net_places.specs.Gathered.{Gathers}
use Rattle.net_places.specs.Mentions.{of_leaf}
use Rattle.net_places.proofs.lines.mention_expr.Given as goal

abbrev pub invariant-loop-leaf : goal.invariant-loop-leaf
invariant-loop-leaf l = Gathers l.modules.symbols l.mark l.initial.gathering l.gathering (flat_map of_leaf (slice_range l.modules.exprs l.initial.leaf l.leaf))
