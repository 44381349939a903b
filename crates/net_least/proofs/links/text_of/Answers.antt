use Rattle.std.proofs.Common.{subst}
use Rattle.net_least.specs.Links.{IsWalked}
use Rattle.net_least.proofs.Spelled.{walk_end}
use Rattle.net_least.proofs.links.text_of.Goals as goal

pub returns-in-None : goal.returns-in-None
returns-in-None c way is =
    walk_end c.args.modules.now.symbols c.args.links.now way c.loop.text
    (subst (λ o. IsWalked c.args.modules.now.symbols c.args.links.now way o c.loop.text) c.in-None.is (c.loop.invariant way is))

pub loop-preserved : goal.loop-preserved
loop-preserved c way is =
    c.in_ok-rest-in-Some.ensures way (subst (λ o. IsWalked c.args.modules.now.symbols c.args.links.now way o c.loop.text) c.in-Some.is (c.loop.invariant way is))
