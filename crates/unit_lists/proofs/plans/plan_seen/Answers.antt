use Rattle.unit_lists.proofs.StepLemmas.{adds_seen}
use Rattle.unit_lists.proofs.plans.plan_seen.Goals as goal

pub returns : goal.returns
returns c =
    adds_seen c.args.supplies.now c.args.plan.now c.meet.new.plan c.add_view.new.views c.args.view c.in_ok-root.root c.in_ok-root.ensures c.in_ok-add_view.ensures
