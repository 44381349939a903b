use Rattle.std.proofs.Common.{◌∙◌}
use Rattle.net_hierarchy.proofs.FoundKinds.{module_found}
use Rattle.net_hierarchy.proofs.kinds.Kinds.module_named.Goals as goal

pub returns-clause-meaning : goal.returns-clause-meaning
returns-clause-meaning c s are = c.find.ensures ∙ module_found s c.args.self.now are c.args.name.now
