use Rattle.design_paths.proofs.HereLemmas.{here_from, instance_here}
use Rattle.design_paths.proofs.resolving.named_here.Goals as goal

pub returns-in-Some : goal.returns-in-Some
returns-in-Some c = instance_here c.args.design.now c.args.inst c.sound.ensures.parents_first c.args.name.now c.in-Some.child c.in-Some.ensures

pub returns-in-None : goal.returns-in-None
returns-in-None c = here_from c.args.design.now c.args.inst c.args.name.now c.in-None.ensures c.own_named.result c.own_named.ensures
