use Rattle.std.proofs.Common.{arith}
use Rattle.net_names.specs.Marks.{IsFreeAt, IsMarked}
use Rattle.net_names.proofs.Marking.{goes_nowhere}
use Rattle.net_names.proofs.Steps.{each_next}
use Rattle.net_names.proofs.fronts.goes_on.Goals as goal

pub loop-at-preserved : goal.loop-at-preserved
loop-at-preserved c =
    each_next (IsFreeAt c.args.modules.now.symbols c.args.marks.now c.args.stamp c.args.byte c.args.name.now) c.loop-at.at c.loop-at.invariant
    (c.goes_on_at.ensures c.if-goes_on_at.false)

pub returns : goal.returns
returns c _ =
    goes_nowhere (IsMarked c.args.modules.now.symbols c.args.marks.now c.args.stamp) c.args.byte c.args.name.now
    (λ k less. c.loop-at.invariant k (omega (arith, less, c.loop-at-test.false)))
