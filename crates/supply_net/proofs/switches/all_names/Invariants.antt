use Rattle.std.proofs.Common.{◌≡◌, ◌∷◌, map, take}
use Rattle.supply_net.specs.Switches.{switch_port}
use Rattle.supply_net.proofs.switches.all_names.Given as goal

abbrev pub invariant-loop-input : goal.invariant-loop-input
invariant-loop-input l =
    l.names ≡ l.switch.name ∷ map (λ p. switch_port l.switch.name p.0) (l.switch.output ∷ take l.input-index l.input-items)
