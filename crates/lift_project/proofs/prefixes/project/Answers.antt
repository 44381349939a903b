use Rattle.diagram_defs.proofs.Yielding.{Makes_same}
use Rattle.lift_project.proofs.PrefixLemmas.{starts_prefix}
use Rattle.lift_project.proofs.prefixes.project.Goals as goal

pub returns : goal.returns
returns c =
    let from = c.args.from.now in
    Makes_same c.args.into.now c.prefixes.new.into 0 _ _ c.prefixes.result (starts_prefix from c.args.into.now c.nodes-count.ensures.pool c.args.node c.requires.levels c.requires.number) c.prefixes.ensures.makes
