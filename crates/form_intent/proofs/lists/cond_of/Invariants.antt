use Rattle.std.proofs.Common.{◌≡◌, map, take}
use Rattle.pw_defs.specs.declared.conditions.Cond.TheVariants.{Is}
use Rattle.form_intent.proofs.lists.cond_of.Given as goal

abbrev pub invariant-loop-value : goal.invariant-loop-value
invariant-loop-value l = l.parts ≡ map (λ v. Is l.supply v) (take l.value-index l.values)
