use Rattle.std.proofs.Common.{take, []}
use Rattle.pw_defs.specs.declared.model.Model.{Model}
use Rattle.design_defs.specs.Models.{HasWellFormedFields}
use Rattle.list_defs.specs.Members.{IsIn}
use Rattle.net_names.specs.Apart.{AreApart}
use Rattle.net_names.proofs.clashes.some_model_may.Given as goal

abbrev pub invariant-loop-model : goal.invariant-loop-model
invariant-loop-model l = (m : Model) → IsIn m (take l.model-index l.models) → HasWellFormedFields m → AreApart [] m.ports
