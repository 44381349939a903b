use Rattle.std.specs.List.{flat_map, slice_range}
use Rattle.pw_defs.specs.declared.netlist.Module.{Module}
use Rattle.list_defs.specs.Members.{IsIn}
use Rattle.design_defs.specs.Hierarchy.{Sources}
use Rattle.design_defs.specs.Places.{exprs_in}
use Rattle.module_rows.specs.Leaves.{own_leaf}
use Rattle.module_rows.specs.Reads.{numbered_expr}
use Rattle.net_runs.specs.Known.{IsOpen}
use Rattle.net_runs.specs.Leaves.{AreRunsOf}
use Rattle.net_runs.proofs.lookups.Lookup.runs.Given as goal

abbrev pub invariant-loop-leaf : goal.invariant-loop-leaf
invariant-loop-leaf l = (s : Sources) (m : Module) → IsOpen s l.self m → IsIn (numbered_expr l.self.netlist l.expr) (exprs_in m)
    → AreRunsOf s l.self.holder m (flat_map own_leaf (slice_range l.self.netlist.exprs l.initial.leaf l.leaf)) l.runs.items
