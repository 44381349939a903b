use Rattle.net_instances.proofs.TreeLemmas.{one_child_more}
use Rattle.net_instances.proofs.tree.add_children.Goals as goal

pub loop-inst-preserved : goal.loop-inst-preserved
loop-inst-preserved c = one_child_more _ _ _ _ _ _ _ _ c.loop-inst.invariant c.in_ok-add_child.ensures
