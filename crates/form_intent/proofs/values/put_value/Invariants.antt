use Rattle.std.proofs.Common.{◌≡◌, ◌++◌, take, drop}
use Rattle.form_intent.specs.Script.{put_value}
use Rattle.form_intent.proofs.values.put_value.Given as goal

abbrev pub invariant-loop-place : goal.invariant-loop-place
invariant-loop-place l = put_value l.value l.other-items ≡ take l.place l.other-items ++ put_value l.value (drop l.place l.other-items)
