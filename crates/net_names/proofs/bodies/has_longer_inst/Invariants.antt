use Rattle.std.proofs.Common.{ℕ, List, map, take}
use Rattle.pw_defs.specs.declared.netlist.Inst.{Inst}
use Rattle.list_defs.specs.Members.{IsIn}
use Rattle.module_rows.specs.Reads.{module_at}
use Rattle.net_names.specs.Bodies.{AreFree}
use Rattle.net_names.proofs.bodies.has_longer_inst.Given as goal

abbrev pub invariant-loop-inst : goal.invariant-loop-inst
invariant-loop-inst l = (name : List ℕ) → IsIn name (map (λ (i : Inst). i.name) (take l.inst (module_at l.modules l.holder).insts)) → AreFree l.modules.symbols l.marks l.stamp name
