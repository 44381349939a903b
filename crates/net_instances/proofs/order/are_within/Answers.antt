use Rattle.std.proofs.Common.{◌<◌, subst}
use Rattle.std.specs.List.{All}
use Rattle.std.proofs.lemmas.List.{take_all}
use Rattle.std.proofs.lemmas.List.Elements.{All-more}
use Rattle.net_instances.proofs.order.are_within.Goals as goal

pub loop-n-preserved : goal.loop-n-preserved
loop-n-preserved c = All-more (λ n. n < c.args.count) c.args.order.now c.loop-n.n-index 0 c.loop-n-test.true c.loop-n.invariant c.if-n-count.false

pub returns : goal.returns
returns c _ = subst (All (λ n. n < c.args.count)) (take_all c.loop-n.n-index c.args.order.now c.loop-n-test.false) c.loop-n.invariant
