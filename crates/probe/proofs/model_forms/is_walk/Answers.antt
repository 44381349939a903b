use Rattle.probe.proofs.BareModels.{fed_walk}
use Rattle.probe.proofs.model_forms.is_walk.Goals as goal

pub returns-then-eq-clause-walk : goal.returns-then-eq-clause-walk
returns-then-eq-clause-walk c said ports among =
    fed_walk c.args.walk.now c.in-Feed.end c.in-Feed.from c.in-Feed.elements c.in-Feed.is (c.is_straight.ensures.way said) ports
    (among c.in-Feed.from (c.is_straight.ensures.start said))
