use Rattle.std.proofs.Common.{drop, None}
use Rattle.list_defs.specs.Members.{IsIn}
use Rattle.net_hierarchy.proofs.hierarchy.lacks_type.Given as goal

abbrev pub invariant-loop-item : goal.invariant-loop-item
invariant-loop-item l = IsIn None l.row → IsIn None (drop l.item-index l.row)
