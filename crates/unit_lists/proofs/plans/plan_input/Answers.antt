use Rattle.unit_lists.proofs.StepLemmas.{adds_input}
use Rattle.unit_lists.proofs.plans.plan_input.Goals as goal

pub returns : goal.returns
returns c =
    adds_input c.args.supplies.now c.args.plan.now c.meet.new.plan c.add_link.new.links c.args.output c.args.input c.in_ok-root.root c.in_ok-root.ensures
    c.in_ok-add_link.ensures
