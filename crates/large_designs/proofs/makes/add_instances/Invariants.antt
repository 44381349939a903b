use Rattle.design_rows.specs.Sound.{AreRows}
use Rattle.large_designs.proofs.makes.add_instances.Given as goal

abbrev pub invariant-loop-number : goal.invariant-loop-number
invariant-loop-number l = AreRows l.rows
