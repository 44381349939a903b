use Rattle.std.proofs.Common.{◌≡◌, ◌++◌, map, drop}
use Rattle.form_design.specs.Designs.{instance_of}
use Rattle.form_design.proofs.cells.instances_of.Given as goal

-- those so far and those that are left are all
abbrev pub invariant-loop-held : goal.invariant-loop-held
invariant-loop-held l = l.insts ++ map instance_of (drop l.held-index l.helds) ≡ map instance_of l.helds
