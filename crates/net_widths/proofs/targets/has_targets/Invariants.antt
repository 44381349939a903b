use Rattle.std.proofs.Common.{◌≢◌, [], take}
use Rattle.pw_defs.specs.declared.netlist.Assign.{Assign}
use Rattle.list_defs.specs.Members.{IsIn}
use Rattle.design_defs.specs.Places.{names_in}
use Rattle.module_rows.specs.Reads.{module_at}
use Rattle.net_widths.proofs.targets.has_targets.Given as goal

abbrev pub invariant-loop-assign : goal.invariant-loop-assign
invariant-loop-assign l = (a : Assign) → IsIn a (take l.assign (module_at l.modules l.holder).assigns) → names_in a.left ≢ []
