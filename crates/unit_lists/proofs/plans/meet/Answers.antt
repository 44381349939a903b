use Rattle.unit_lists.proofs.StepLemmas.{meets}
use Rattle.unit_lists.proofs.plans.meet.Goals as goal

pub returns : goal.returns
returns c =
    meets c.args.supplies.now c.args.plan.now c.find_root.new.roots c.add_view.new.views c.args.view c.in_ok-supply.supply c.in_ok-supply.ensures.root
    c.in_ok-supply.ensures.roots c.in_ok-add_view.ensures
