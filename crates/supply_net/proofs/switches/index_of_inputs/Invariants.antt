use Rattle.std.proofs.Common.{◌≡◌, ℕ, List, take}
use Rattle.std.specs.List.{list_any}
use Rattle.list_defs.specs.Members.{same_name}
use Rattle.supply_net.specs.Switches.{input_names}
use Rattle.supply_net.proofs.switches.index_of_inputs.Given as goal

abbrev pub invariant-loop-input : goal.invariant-loop-input
invariant-loop-input l =
    (name : List ℕ) → list_any (same_name name) l.index ≡ list_any (same_name name) (input_names (take l.input-index l.input-items))
