use Rattle.design_rows.specs.Sound.{AreRows}
use Rattle.large_designs.proofs.makes.nested.Given as goal

abbrev pub invariant-loop-block_number : goal.invariant-loop-block_number
invariant-loop-block_number l = AreRows l.rows
