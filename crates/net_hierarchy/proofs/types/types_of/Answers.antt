use Rattle.std.proofs.Common.{◌∙◌, ap, sym}
use Rattle.net_hierarchy.specs.Kinds.{types_by}
use Rattle.net_hierarchy.proofs.FoundKinds.{types_found}
use Rattle.net_hierarchy.proofs.types.types_of.Goals as goal

pub returns : goal.returns
returns c s are modules = c.in_ok-types.ensures ∙ ap (types_by c.args.kinds.now) (sym modules) ∙ types_found s c.args.kinds.now are
