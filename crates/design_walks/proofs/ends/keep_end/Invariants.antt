use Rattle.std.proofs.Common.{◌<◌, length}
use Rattle.design_walks.specs.Ends.{AreEnds, EndsAt}
use Rattle.design_walks.proofs.ends.keep_end.Given as goal

abbrev pub invariant-loop : goal.invariant-loop
invariant-loop l = record {
  within : l.at < length l.design.bits;
  last : EndsAt l.design.bits l.at l.last;
  ends : AreEnds l.design.bits l.ends;
}
