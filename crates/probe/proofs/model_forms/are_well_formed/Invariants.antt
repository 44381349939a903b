use Rattle.std.proofs.Common.{take}
use Rattle.pw_defs.specs.declared.model.Model.{Model}
use Rattle.list_defs.specs.Members.{IsIn}
use Rattle.design_defs.specs.Models.{HasWellFormedFields}
use Rattle.probe.proofs.model_forms.are_well_formed.Given as goal

abbrev pub invariant-loop-model : goal.invariant-loop-model
invariant-loop-model l = (m : Model) → IsIn m (take l.model-index l.models) → HasWellFormedFields m
