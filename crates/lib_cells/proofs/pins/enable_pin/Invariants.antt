use Rattle.lib_cells.proofs.RoleLaws.{FirstSoFar}
use Rattle.lib_cells.proofs.pins.enable_pin.Given as goal

abbrev pub invariant-loop-at : goal.invariant-loop-at
invariant-loop-at l = FirstSoFar (λ r. r.enables) l.roles l.at
