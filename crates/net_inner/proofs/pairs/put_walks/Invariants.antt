use Rattle.std.proofs.Common.{◌≡◌, take}
use Rattle.std.specs.List.{flat_map}
use Rattle.net_inner.specs.Pairs.{pairs_of_partial, with_pairs}
use Rattle.net_inner.proofs.pairs.put_walks.Given as goal

abbrev pub invariant-loop-walk : goal.invariant-loop-walk
invariant-loop-walk l = l.sources.items ≡ with_pairs l.index (flat_map pairs_of_partial (take l.walk-index l.walks)) l.initial.sources.items
