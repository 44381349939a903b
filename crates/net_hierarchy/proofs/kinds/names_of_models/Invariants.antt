use Rattle.std.proofs.Common.{take}
use Rattle.net_hierarchy.specs.Kinds.{AreFirsts, model_names}
use Rattle.net_hierarchy.proofs.kinds.names_of_models.Given as goal

abbrev pub invariant-loop-place : goal.invariant-loop-place
invariant-loop-place l = AreFirsts (model_names (take l.place l.models)) l.firsts
