use Rattle.std.proofs.Common.{◌<◌, List, inl, inr, length, map, subst, sym, arith}
use Rattle.std.proofs.lemmas.List.{take_all}
use Rattle.pw_defs.specs.declared.netlist.Inst.{Inst}
use Rattle.list_defs.specs.Members.{IsIn}
use Rattle.module_rows.specs.Reads.{inst_at, module_at, no_inst}
use Rattle.net_names.specs.Bodies.{AreFree}
use Rattle.net_names.proofs.Marking.{name_more}
use Rattle.net_names.proofs.bodies.has_longer_inst.Goals as goal

pub loop-inst-preserved : goal.loop-inst-preserved
loop-inst-preserved c name there =
    let n = c.args.modules.now in
    let insts = (module_at n c.args.holder).insts in
    let i = c.loop-inst.inst in
    let within : i < length insts = omega (arith, c.loop-inst-test.true, c.module-inst-end.ensures.insts) in
    elim (name_more (λ (x : Inst). x.name) insts i no_inst name within there) [
      | inl early ↦ c.loop-inst.invariant name early
      | inr e ↦ subst (AreFree n.symbols c.args.marks.now c.args.stamp) (sym e)
          (c.is_longer.ensures c.if-is_longer.false (inst_at n c.args.holder i).name c.inst.ensures.name)
    ]

pub returns : goal.returns
returns c _ name there =
    let insts = (module_at c.args.modules.now c.args.holder).insts in
    let all = take_all c.loop-inst.inst insts (omega (arith, c.loop-inst-test.false, c.module-inst-end.ensures.insts)) in
    c.loop-inst.invariant name (subst (λ (xs : List Inst). IsIn name (map (λ (x : Inst). x.name) xs)) (sym all) there)
