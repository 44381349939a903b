use Rattle.std.proofs.Common.{ℕ, Some, take}
use Rattle.pw_defs.specs.declared.design.Body.TheVariants.{Module as ModuleBody}
use Rattle.list_defs.specs.Members.{IsIn}
use Rattle.net_least.specs.Recursion.{IsMarked}
use Rattle.net_least.proofs.marks.are_free.Given as goal

abbrev pub invariant-loop-item : goal.invariant-loop-item
invariant-loop-item l = (k : ℕ) → IsIn (Some (ModuleBody k)) (take l.item-index l.row) → IsMarked l.free k
