use Rattle.std.proofs.Common.{◌≡◌, map, take}
use Rattle.pw_defs.specs.declared.netlist.Inst.{Inst}
use Rattle.module_rows.specs.Reads.{module_at}
use Rattle.net_hierarchy.specs.Kinds.{type_in}
use Rattle.net_hierarchy.proofs.types.types_in.Given as goal

abbrev pub invariant-loop-inst : goal.invariant-loop-inst
invariant-loop-inst l = l.types ≡ map (λ (i : Inst). type_in l.kinds i.kind) (take l.inst (module_at l.modules l.holder).insts)
