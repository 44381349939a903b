use Rattle.std.proofs.Common.{arith}
use Rattle.design_defs.specs.Models.{HasWellFormedFields}
use Rattle.probe.proofs.BitLists.{each_all, each_more}
use Rattle.probe.proofs.model_forms.are_well_formed.Goals as goal

pub loop-model-preserved : goal.loop-model-preserved
loop-model-preserved c =
    each_more c.args.models.now c.loop-model.model-index c.model-item.result c.loop-model-test.true c.model-item.is HasWellFormedFields c.loop-model.invariant
    (c.in_ok-is_well_formed.ensures c.if-not-branch.false)

pub returns : goal.returns
returns c said = each_all HasWellFormedFields c.args.models.now c.loop-model.model-index (omega (arith, c.loop-model-test.false)) c.loop-model.invariant
