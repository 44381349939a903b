use Rattle.std.proofs.Common.{◌≡◌, [], take, drop}
use Rattle.supply_net.specs.Parts.{network_of}
use Rattle.supply_net.specs.Switches.{first_taken}
use Rattle.supply_net.proofs.network.Supplies.check_names.Given as goal

abbrev pub invariant-loop-name : goal.invariant-loop-name
invariant-loop-name l =
    (l.before ≡ take l.name-index l.name-items)
    × (first_taken (network_of l.self).objects l.scope (take l.name-index l.name-items) (drop l.name-index l.name-items)
    ≡ first_taken (network_of l.self).objects l.scope [] l.names)
