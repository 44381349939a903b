use Rattle.std.proofs.Common.{◌∙◌}
use Rattle.net_hierarchy.proofs.FoundKinds.{cell_found}
use Rattle.net_hierarchy.proofs.kinds.Kinds.cell_named.Goals as goal

pub returns-clause-meaning : goal.returns-clause-meaning
returns-clause-meaning c s are = c.find.ensures ∙ cell_found s c.args.self.now are c.args.name.now
