use Rattle.std.proofs.Common.{take}
use Rattle.std.specs.List.{flat_map}
use Rattle.design_defs.specs.Hierarchy.{Sources}
use Rattle.module_rows.specs.Reads.{module_at}
use Rattle.net_runs.specs.Known.{IsOpen}
use Rattle.net_widths.specs.Refusals.{Finds, widths_of_assign}
use Rattle.net_widths.proofs.widths.assigns_widths.Given as goal

abbrev pub invariant-loop-assign : goal.invariant-loop-assign
invariant-loop-assign l =
    let n = l.spellings.modules.now in
    (s : Sources) → IsOpen s l.lookup (module_at n l.holder)
    → Finds n.symbols l.fn.best l.least (flat_map (widths_of_assign (module_at n l.holder)) (take l.assign (module_at n l.holder).assigns))
