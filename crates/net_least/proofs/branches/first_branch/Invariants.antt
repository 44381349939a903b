use Rattle.std.proofs.Common.{◌≡◌, map, take}
use Rattle.pw_defs.specs.declared.netlist.Inst.{Inst}
use Rattle.design_defs.specs.Hierarchy.{Sources, type_of}
use Rattle.module_rows.specs.Reads.{module_at}
use Rattle.net_hierarchy.specs.Graph.{types_of}
use Rattle.net_least.specs.Recursion.{IsLeastBranch}
use Rattle.net_least.proofs.branches.first_branch.Given as goal

abbrev pub invariant-loop-inst : goal.invariant-loop-inst
invariant-loop-inst l = (s : Sources) → l.types ≡ types_of s → l.row ≡ map (λ (i : Inst). type_of s i.kind) (module_at l.modules l.holder).insts
    → IsLeastBranch s l.free l.marks (take l.inst (module_at l.modules l.holder).insts) l.best
