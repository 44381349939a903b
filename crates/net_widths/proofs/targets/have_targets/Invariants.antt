use Rattle.std.proofs.Common.{take}
use Rattle.pw_defs.specs.declared.netlist.Module.{Module}
use Rattle.list_defs.specs.Members.{IsIn}
use Rattle.net_widths.specs.WiredLines.{HasTargets}
use Rattle.net_widths.proofs.targets.have_targets.Given as goal

abbrev pub invariant-loop-holder : goal.invariant-loop-holder
invariant-loop-holder l = (m : Module) → IsIn m (take l.holder l.modules.modules) → HasTargets m
