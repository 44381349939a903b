use Rattle.std.proofs.Common.{[], refl}
use Rattle.net_places.proofs.Starting.{ready_gathers}
use Rattle.net_places.proofs.plans.gather.Goals as goal

pub returns : goal.returns
returns c = λ ready. c.in_ok-mention_module.ensures [] (ready_gathers c.args.modules.now.symbols c.args.mark c.args.gathering.now _ ready refl c.clear.ensures.items)
