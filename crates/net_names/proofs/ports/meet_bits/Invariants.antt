use Rattle.std.proofs.Common.{◌≡◌}
use Rattle.net_names.specs.Meets.{bits_at, met_all}
use Rattle.net_names.proofs.ports.meet_bits.Given as goal

abbrev pub invariant-loop-at : goal.invariant-loop-at
invariant-loop-at l = l.meeting ≡ met_all l.initial.meeting (bits_at l.place l.name l.range l.at)
