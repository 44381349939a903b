use Rattle.std.proofs.Common.{◌≡◌, length, map, take, true}
use Rattle.pw_defs.specs.declared.netlist.Inst.{Inst}
use Rattle.list_defs.specs.Members.{IsIn, all_differ, same_name}
use Rattle.module_rows.specs.Reads.{module_at}
use Rattle.net_names.specs.Marks.{AreMarked}
use Rattle.net_names.proofs.marks.mark_insts.Given as goal

abbrev pub invariant-loop-inst : goal.invariant-loop-inst
invariant-loop-inst l = all_differ same_name l.modules.symbols ≡ true → length l.initial.marks.items ≡ length l.modules.symbols
    → AreMarked l.modules.symbols l.marks.items l.stamp (λ name. IsIn name (map (λ (i : Inst). i.name) (take l.inst (module_at l.modules l.holder).insts)))
