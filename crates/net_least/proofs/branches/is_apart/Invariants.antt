use Rattle.std.proofs.Common.{◌≡◌, ◌<◌, ℕ, Some, slice_get}
use Rattle.pw_defs.specs.declared.netlist.Inst.{Inst}
use Rattle.module_rows.specs.Reads.{module_at}
use Rattle.net_least.specs.Recursion.{GoesOn, IsMarked, module_in}
use Rattle.net_least.proofs.branches.is_apart.Given as goal

abbrev pub invariant-loop-inst : goal.invariant-loop-inst
invariant-loop-inst l = (n k : ℕ) (j : Inst) → n < l.inst → slice_get (module_at l.modules l.holder).insts n ≡ Some j → module_in l.row n ≡ Some k → (IsMarked l.free k → ⊥)
    → (GoesOn l.name j.name → ⊥) × (GoesOn j.name l.name → ⊥)
