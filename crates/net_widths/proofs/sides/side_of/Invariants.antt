use Rattle.std.specs.List.{flat_map, slice_range}
use Rattle.pw_defs.specs.declared.netlist.Module.{Module}
use Rattle.list_defs.specs.Members.{IsIn}
use Rattle.design_defs.specs.Hierarchy.{Sources}
use Rattle.design_defs.specs.Places.{exprs_in}
use Rattle.module_rows.specs.Leaves.{own_leaf}
use Rattle.module_rows.specs.Reads.{numbered_expr}
use Rattle.net_runs.specs.Known.{IsOpen}
use Rattle.net_widths.specs.Sides.{AddsLeaves}
use Rattle.net_widths.proofs.sides.side_of.Given as goal

abbrev pub invariant-loop-leaf : goal.invariant-loop-leaf
invariant-loop-leaf l =
    (s : Sources) → (m : Module) → IsOpen s l.lookup m → IsIn (numbered_expr l.modules l.expr) (exprs_in m)
    → AddsLeaves l.modules.symbols m l.line l.initial.side l.side (flat_map own_leaf (slice_range l.modules.exprs l.initial.leaf l.leaf))
