use Rattle.std.proofs.Common.{◌≡◌, map, take}
use Rattle.std.specs.List.{enumerate_from, filter_map}
use Rattle.form_intent.specs.Script.{cond_with}
use Rattle.form_intent.proofs.lists.conds.Given as goal

abbrev pub invariant-loop-supply : goal.invariant-loop-supply
invariant-loop-supply l = l.conds ≡ filter_map cond_with (take l.supply (enumerate_from 0 (map (λ values. values.items) l.stated)))
