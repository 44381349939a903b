use Rattle.design_paths.proofs.WayLemmas.{resolved_from}
use Rattle.design_paths.proofs.resolving.resolve.Goals as goal

pub returns : goal.returns
returns c = resolved_from c.args.design.now c.sound.ensures.own_names c.args.scope c.args.name.now c.named_below.result c.named_below.ensures
