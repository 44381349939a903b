use Rattle.std.proofs.Common.{◌≡◌, ◌++◌, take}
use Rattle.upf_statements.specs.Views.{pairs_view}
use Rattle.upf_statements.proofs.readings.put_pairs.Given as goal

abbrev pub invariant-loop-first : goal.invariant-loop-first
invariant-loop-first l = pairs_view l.pairs.items ≡ pairs_view l.initial.pairs.items ++ take l.first-index l.more
