use Rattle.std.proofs.Common.{◌≡◌, None, replicate}
use Rattle.net_inner.proofs.inner.no_sources.Given as goal

abbrev pub invariant-loop-done : goal.invariant-loop-done
invariant-loop-done l = l.sources.items ≡ replicate l.done None
