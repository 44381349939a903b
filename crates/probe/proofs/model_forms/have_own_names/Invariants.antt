use Rattle.std.proofs.Common.{◌≡◌, map, take}
use Rattle.pw_defs.specs.declared.model.Model.{Model}
use Rattle.probe.proofs.model_forms.have_own_names.Given as goal

abbrev pub invariant-loop-model : goal.invariant-loop-model
invariant-loop-model l = map (λ name. name.now) l.names.items ≡ map (λ (m : Model). m.module) (take l.model-index l.models)
