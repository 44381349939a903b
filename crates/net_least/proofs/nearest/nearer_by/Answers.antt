use Rattle.std.proofs.Common.{subst}
use Rattle.net_least.specs.Nearest.{IsNearBelow}
use Rattle.net_least.proofs.Nears.{near_other}
use Rattle.net_least.proofs.nearest.nearer_by.Goals as goal

pub returns-in-None-clause-near : goal.returns-in-None-clause-near
returns-in-None-clause-near c s own insts i names some spelled below best =
    let symbols = c.args.modules.now.symbols in
    near_other s own symbols c.args.links.now insts i c.args.best (subst (IsNearBelow s own symbols c.args.links.now i) c.in-None.is below) best
