use Rattle.std.proofs.Common.{◌<◌, ℕ, List, length, map, subst, sym, take, arith, ◌+◌}
use Rattle.std.proofs.lemmas.List.{take_all}
use Rattle.pw_defs.specs.declared.netlist.Inst.{Inst}
use Rattle.list_defs.specs.Members.{IsIn}
use Rattle.module_rows.specs.Reads.{inst_at, module_at, no_inst}
use Rattle.net_names.specs.Marks.{AreMarked}
use Rattle.net_names.proofs.Marking.{mark_more, name_more}
use Rattle.net_names.proofs.marks.mark_insts.Goals as goal

pub loop-inst-preserved : goal.loop-inst-preserved
loop-inst-preserved c differ count =
    let n = c.args.modules.now in
    let insts = (module_at n c.args.holder).insts in
    let i = c.loop-inst.inst in
    let within : i < length insts = omega (arith, c.loop-inst-test.true, c.module-inst-end.ensures.insts) in
    let names = λ (k : ℕ) (name : List ℕ). IsIn name (map (λ (x : Inst). x.name) (take k insts)) in
    subst (λ (marks : List ℕ). AreMarked n.symbols marks c.args.stamp (names (i + 1))) (sym c.set_mark.ensures)
    (mark_more n.symbols c.loop-inst.marks.items c.args.stamp c.inst.result.name (inst_at n c.args.holder i).name (names i) (names (i + 1)) differ c.inst.ensures.name
    (λ name there. name_more (λ (x : Inst). x.name) insts i no_inst name within there) (c.loop-inst.invariant differ count))

pub returns : goal.returns
returns c differ count =
    let n = c.args.modules.now in
    let insts = (module_at n c.args.holder).insts in
    let all = take_all c.loop-inst.inst insts (omega (arith, c.loop-inst-test.false, c.module-inst-end.ensures.insts)) in
    subst (λ (xs : List Inst). AreMarked n.symbols c.loop-inst.marks.items c.args.stamp (λ name. IsIn name (map (λ (x : Inst). x.name) xs))) all (c.loop-inst.invariant differ count)
