use Rattle.std.proofs.Common.{take}
use Rattle.net_hierarchy.specs.ByName.{IsOtherAmong}
use Rattle.net_hierarchy.proofs.by_name.first_other.Given as goal

abbrev pub invariant-loop-model : goal.invariant-loop-model
invariant-loop-model l = IsOtherAmong l.kinds l.modules.modules (take l.model-index l.models) l.least
