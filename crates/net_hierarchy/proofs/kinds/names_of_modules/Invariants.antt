use Rattle.std.proofs.Common.{take}
use Rattle.net_hierarchy.specs.Kinds.{AreFirsts, module_names}
use Rattle.net_hierarchy.proofs.kinds.names_of_modules.Given as goal

abbrev pub invariant-loop-place : goal.invariant-loop-place
invariant-loop-place l = AreFirsts (module_names (take l.place l.modules.modules)) l.firsts
