use Rattle.std.proofs.Common.{◌≡◌, None, map, take}
use Rattle.std.specs.List.{flat_map}
use Rattle.pw_defs.specs.declared.netlist.Inst.{Inst}
use Rattle.design_defs.specs.Hierarchy.{Sources, type_of}
use Rattle.module_rows.specs.Reads.{module_at}
use Rattle.net_widths.specs.Ports.{IsSeen}
use Rattle.net_widths.specs.Refusals.{Finds, ports_of_inst}
use Rattle.net_widths.proofs.ports.module_ports.Given as goal

abbrev pub invariant-loop-inst : goal.invariant-loop-inst
invariant-loop-inst l =
    (s : Sources) → IsSeen s l.spellings l.plans → l.row ≡ map (λ (i : Inst). type_of s i.kind) (module_at l.spellings.modules.now l.holder).insts
    → Finds l.spellings.modules.now.symbols None l.least (flat_map (ports_of_inst s) (take l.inst (module_at l.spellings.modules.now l.holder).insts))
