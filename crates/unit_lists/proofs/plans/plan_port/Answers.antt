use Rattle.unit_lists.proofs.StepLemmas.{adds_port}
use Rattle.unit_lists.proofs.plans.plan_port.Goals as goal

pub returns : goal.returns
returns c =
    adds_port c.args.supplies.now c.args.plan.now c.meet.new.plan c.meet-2.new.plan c.add_view.new.views c.add_view-2.new.views c.add_link.new.links c.args.unit
    c.args.inner c.args.port c.in_ok-root.root c.in_ok-inner_root.inner_root c.in_ok-root.ensures c.in_ok-inner_root.ensures c.in_ok-add_view.ensures
    c.in_ok-add_view-2.ensures c.in_ok-add_link.ensures
