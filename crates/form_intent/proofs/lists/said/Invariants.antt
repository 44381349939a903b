use Rattle.std.proofs.Common.{◌≡◌, map, take}
use Rattle.form_intent.proofs.lists.said.Given as goal

abbrev pub invariant-loop-value : goal.invariant-loop-value
invariant-loop-value l = l.said ≡ map (λ v. record { unit = 0; value = v }) (take l.value-index l.values)
