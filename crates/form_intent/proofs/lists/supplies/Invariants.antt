use Rattle.std.proofs.Common.{◌≡◌, map, take}
use Rattle.std.specs.List.{zip}
use Rattle.form_intent.specs.Script.{supply_with}
use Rattle.form_intent.proofs.lists.supplies.Given as goal

abbrev pub invariant-loop-place : goal.invariant-loop-place
invariant-loop-place l = l.supplies ≡ map (λ s. supply_with s.0 s.1) (take l.place (zip l.fn.names (map (λ values. values.items) l.stated)))
