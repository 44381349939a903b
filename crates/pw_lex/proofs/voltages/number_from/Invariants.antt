use Rattle.std.proofs.Common.{◌≡◌, ◌≤◌, drop, min}
use Rattle.std.specs.Str.Parse.{AllDigits, digits_value_after}
use Rattle.pw_lex.proofs.voltages.number_from.Given as goal

abbrev pub invariant-loop-byte : goal.invariant-loop-byte
invariant-loop-byte l =
    (l.number ≤ 1000000001) × AllDigits 10 (drop l.byte-index l.digits)
    × (min (digits_value_after 10 l.number (drop l.byte-index l.digits)) 1000000001 ≡ min (digits_value_after 10 l.fn.number l.digits) 1000000001)
