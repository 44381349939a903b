use Rattle.std.proofs.Common.{◌≡◌, take}
use Rattle.std.specs.List.{flat_map}
use Rattle.design_defs.specs.Hierarchy.{Sources, type_of}
use Rattle.module_rows.specs.Reads.{inst_at, module_at}
use Rattle.net_runs.specs.Known.{IsOpen}
use Rattle.net_widths.specs.Ports.{IsSeen}
use Rattle.net_widths.specs.Refusals.{Finds, widths_of_conn}
use Rattle.net_widths.proofs.widths.inst_widths.Given as goal

abbrev pub invariant-loop-number : goal.invariant-loop-number
invariant-loop-number l =
    let n = l.spellings.modules.now in
    (s : Sources) → IsSeen s l.spellings l.plans → IsOpen s l.lookup (module_at n l.holder) → l.kind ≡ type_of s (inst_at n l.holder l.inst).kind
    → Finds n.symbols l.fn.best l.least (flat_map (widths_of_conn s (module_at n l.holder) (inst_at n l.holder l.inst)) (take l.number (inst_at n l.holder l.inst).conns))
