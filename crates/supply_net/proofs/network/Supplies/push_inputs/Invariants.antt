use Rattle.std.proofs.Common.{◌≡◌, ◌≤◌, length, take}
use Rattle.supply_net.specs.Parts.{network_of}
use Rattle.supply_net.specs.Switches.{with_inputs}
use Rattle.supply_net.proofs.network.Supplies.push_inputs.Given as goal

abbrev pub invariant-loop-input : goal.invariant-loop-input
invariant-loop-input l =
    (network_of l.self ≡ with_inputs (network_of l.initial.self) l.scope l.switch.name (take l.input-index l.input-items))
    × (length l.initial.self.supplies ≤ length l.self.supplies)
