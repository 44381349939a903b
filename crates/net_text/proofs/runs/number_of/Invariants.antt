use Rattle.std.proofs.Common.{◌≡◌, ◌≤◌, min, drop}
use Rattle.std.specs.Str.Parse.{digits_value_after}
use Rattle.net_text.specs.NetlistTokens.{number_of}
use Rattle.net_text.proofs.runs.number_of.Given as goal

abbrev pub invariant-loop-digit : goal.invariant-loop-digit
invariant-loop-digit l =
    record {
      limit : l.number ≤ 100000;
      value : min (digits_value_after 10 l.number (drop l.digit-index l.digits)) 100000 ≡ min (number_of l.digits) 100000;
    }
