use Rattle.std.proofs.Common.{◌≡◌, None, map, take}
use Rattle.std.specs.List.{flat_map}
use Rattle.pw_defs.specs.declared.netlist.Inst.{Inst}
use Rattle.design_defs.specs.Hierarchy.{Sources, type_of}
use Rattle.module_rows.specs.Reads.{module_at}
use Rattle.net_runs.specs.Known.{IsOpen}
use Rattle.net_widths.specs.Ports.{IsSeen}
use Rattle.net_widths.specs.Refusals.{Finds, widths_of_inst}
use Rattle.net_widths.proofs.widths.insts_widths.Given as goal

abbrev pub invariant-loop-inst : goal.invariant-loop-inst
invariant-loop-inst l =
    let n = l.spellings.modules.now in
    (s : Sources) → IsSeen s l.spellings l.plans → IsOpen s l.lookup (module_at n l.holder) → l.row ≡ map (λ (i : Inst). type_of s i.kind) (module_at n l.holder).insts
    → Finds n.symbols None l.least (flat_map (widths_of_inst s (module_at n l.holder)) (take l.inst (module_at n l.holder).insts))
