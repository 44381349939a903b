use Rattle.std.proofs.Common.{◌∙◌}
use Rattle.net_hierarchy.proofs.FoundKinds.{type_found}
use Rattle.net_hierarchy.proofs.kinds.Kinds.type_of.Goals as goal

pub returns-clause-meaning : goal.returns-clause-meaning
returns-clause-meaning c s are = c.type_in.ensures ∙ type_found s c.args.self.now are c.args.kind.now
