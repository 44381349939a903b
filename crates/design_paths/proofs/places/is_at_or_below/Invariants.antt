use Rattle.std.proofs.Common.{◌<◌, ◌↔◌, length}
use Rattle.design_defs.specs.Alike.{IsAtOrBelow}
use Rattle.design_paths.proofs.places.is_at_or_below.Given as goal

abbrev pub invariant-loop-at : goal.invariant-loop-at
invariant-loop-at l = record {
  within : l.at < length l.design.insts;
  same : IsAtOrBelow l.design l.top l.at ↔ IsAtOrBelow l.design l.top l.n;
}

abbrev pub decreases-loop-at : goal.decreases-loop-at
decreases-loop-at l = l.at
