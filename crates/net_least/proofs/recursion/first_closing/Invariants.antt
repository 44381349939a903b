use Rattle.std.proofs.Common.{◌≡◌, map, take}
use Rattle.pw_defs.specs.declared.netlist.Inst.{Inst}
use Rattle.design_defs.specs.Hierarchy.{Sources, type_of}
use Rattle.module_rows.specs.Reads.{module_at}
use Rattle.net_least.specs.Lines.{IsLeastLine}
use Rattle.net_least.specs.Recursion.{IsOfMarked}
use Rattle.net_least.proofs.recursion.first_closing.Given as goal

abbrev pub invariant-loop-inst : goal.invariant-loop-inst
invariant-loop-inst l = (s : Sources) → l.row ≡ map (λ (i : Inst). type_of s i.kind) (module_at l.modules l.holder).insts
    → IsLeastLine (IsOfMarked s l.marks) l.modules.symbols (take l.inst (module_at l.modules l.holder).insts) l.least
