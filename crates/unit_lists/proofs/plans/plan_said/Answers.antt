use Rattle.unit_lists.proofs.StepLemmas.{adds_said}
use Rattle.unit_lists.proofs.plans.plan_said.Goals as goal

pub returns : goal.returns
returns c =
    adds_said c.args.supplies.now c.args.plan.now c.meet.new.plan c.add_view.new.views c.push.new.self c.args.supply c.args.said c.in_ok-root.root c.in_ok-root.ensures
    c.in_ok-add_view.ensures c.in_ok-push.ensures.items
