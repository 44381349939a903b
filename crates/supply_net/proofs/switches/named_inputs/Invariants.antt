use Rattle.std.proofs.Common.{◌≡◌, ◌++◌, drop}
use Rattle.supply_net.specs.Switches.{named_inputs}
use Rattle.supply_net.proofs.switches.named_inputs.Given as goal

abbrev pub invariant-loop-input : goal.invariant-loop-input
invariant-loop-input l =
    l.numbers ++ named_inputs l.switch.on l.number (drop l.input-index l.input-items) ≡ named_inputs l.switch.on l.first l.switch.inputs
