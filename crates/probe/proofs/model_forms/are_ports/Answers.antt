use Rattle.std.proofs.Common.{arith, refl}
use Rattle.design_defs.specs.Models.{IsModelPort}
use Rattle.probe.proofs.BitLists.{each_all, each_more}
use Rattle.probe.proofs.model_forms.are_ports.Goals as goal

pub loop-port-preserved : goal.loop-port-preserved
loop-port-preserved c =
    each_more c.args.ports.now c.loop-port.port-index c.port-item.result c.loop-port-test.true c.port-item.is IsModelPort c.loop-port.invariant (c.if-not-is_port.ensures refl)

pub returns : goal.returns
returns c said = each_all IsModelPort c.args.ports.now c.loop-port.port-index (omega (arith, c.loop-port-test.false)) c.loop-port.invariant
