use Rattle.lib_cells.proofs.RoleLaws.{OnlySoFar}
use Rattle.lib_cells.proofs.pins.through_pin.Given as goal

abbrev pub invariant-loop-at : goal.invariant-loop-at
invariant-loop-at l = OnlySoFar (λ r. r.is_data) l.roles l.at l.found
