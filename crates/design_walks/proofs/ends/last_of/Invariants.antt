use Rattle.std.proofs.Common.{◌<◌, ◌≤◌, ◌+◌, ℕ, List, length}
use Rattle.pw_defs.specs.declared.design.Feeder.{Feeder}
use Rattle.design_defs.specs.Walks.{IsWalk}
use Rattle.design_walks.specs.Ends.{EndsAt}
use Rattle.design_walks.proofs.ends.last_of.Given as goal

abbrev pub invariant-loop : goal.invariant-loop
invariant-loop l = record {
  within : l.at < length l.design.bits;
  back : (last : ℕ) → EndsAt l.design.bits l.at last → EndsAt l.design.bits l.n last;
  left : (rest : List ℕ) (end : Feeder) → IsWalk l.design.bits l.at rest end → length rest + l.counter ≤ length l.design.bits;
}
