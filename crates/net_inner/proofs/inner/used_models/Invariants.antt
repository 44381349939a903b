use Rattle.std.proofs.Common.{take, length}
use Rattle.net_inner.specs.Inside.{AreUsed}
use Rattle.net_inner.proofs.inner.used_models.Given as goal

abbrev pub invariant-loop-row : goal.invariant-loop-row
invariant-loop-row l = AreUsed (take l.row-index l.placed.instances.now.rows) (length l.placed.models.now) l.used.items
