use Rattle.std.proofs.Common.{◌≡◌, map, take}
use Rattle.form_intent.proofs.supplies.spelled.Given as goal

abbrev pub invariant-loop-name : goal.invariant-loop-name
invariant-loop-name l = map (λ name. name.now) l.spelled.items ≡ take l.name-index l.names
