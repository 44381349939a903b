use Rattle.net_instances.specs.Trees.{HasChildren}
use Rattle.net_instances.proofs.tree.add_children.Given as goal

abbrev pub invariant-loop-inst : goal.invariant-loop-inst
invariant-loop-inst l = HasChildren l.modules l.types l.holder l.parent l.inst l.fn.rows l.rows
