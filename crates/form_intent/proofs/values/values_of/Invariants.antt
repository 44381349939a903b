use Rattle.std.proofs.Common.{◌≡◌, ◌≤◌, drop, length}
use Rattle.form_intent.specs.Script.{put_values, values_of}
use Rattle.form_intent.proofs.values.values_of.Given as goal

abbrev pub invariant-loop-value : goal.invariant-loop-value
invariant-loop-value l = record { rest : put_values (drop l.value-index l.stated) l.values.items ≡ values_of l.stated; few : length l.values.items ≤ 64 }
