use Rattle.std.proofs.Common.{◌≡◌, ◌≤◌, drop}
use Rattle.line_forms.specs.ScriptReading.{number_from}
use Rattle.line_forms.proofs.voltage.number_from.Given as goal

abbrev pub invariant-loop-byte : goal.invariant-loop-byte
invariant-loop-byte l = (l.number ≤ 1000000000) × (number_from l.number (drop l.byte-index l.digits) ≡ number_from l.fn.number l.digits)
