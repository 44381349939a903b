use Rattle.std.proofs.Common.{◌≡◌, ◌<◌, length}
use Rattle.chains.proofs.Steps.{LeadsOn}
use Rattle.chains.proofs.walking.walk_from.Given as goal

abbrev pub invariant-loop : goal.invariant-loop
invariant-loop l = record {
  within : l.at < length l.bits;
  count : length l.passed ≡ l.counter;
  walk : LeadsOn l.bits l.start l.passed l.at;
}
