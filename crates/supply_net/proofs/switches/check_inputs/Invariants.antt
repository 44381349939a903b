use Rattle.std.proofs.Common.{◌≡◌, not, drop, find}
use Rattle.std.specs.List.{list_any}
use Rattle.list_defs.specs.Members.{same_name}
use Rattle.supply_net.specs.Switches.{absent_input, input_names}
use Rattle.supply_net.proofs.switches.check_inputs.Given as goal

abbrev pub invariant-loop-name : goal.invariant-loop-name
invariant-loop-name l =
    find (λ port. not (list_any (same_name port) (input_names l.switch.inputs))) (drop l.name-index l.name-items) ≡ absent_input l.switch
