use Rattle.std.proofs.Common.{◌≡◌, take}
use Rattle.net_hierarchy.specs.Kinds.{types_by}
use Rattle.net_hierarchy.proofs.types.rows_of.Given as goal

abbrev pub invariant-loop-holder : goal.invariant-loop-holder
invariant-loop-holder l = l.types ≡ types_by l.kinds (take l.holder l.modules.modules)
