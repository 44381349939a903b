use Rattle.std.proofs.Common.{◌<◌, get_or, length, take, sym, subst, arith}
use Rattle.std.proofs.lemmas.List.{take_all, take_more}
use Rattle.module_rows.specs.Reads.{module_at, no_inst}
use Rattle.net_least.specs.Recursion.{IsLeastBranch}
use Rattle.net_least.proofs.branches.first_branch.Goals as goal

pub loop-inst-preserved : goal.loop-inst-preserved
loop-inst-preserved c s types row =
    let insts = (module_at c.args.modules.now c.args.holder).insts in
    let free = c.args.free.now in
    let marks = c.args.marks.now in
    let n = c.loop-inst.inst in
    let within : n < length insts = omega (arith, c.loop-inst-test.true, c.module-inst-end.ensures.insts) in
    subst (λ xs. IsLeastBranch s free marks xs c.lesser-best.result) (sym (take_more insts n no_inst within))
    (c.lesser-best.ensures s free marks (take n insts) (get_or insts n no_inst) (c.loop-inst.invariant s types row) (c.in_ok-next.ensures s types row))

pub returns : goal.returns
returns c s types row =
    let insts = (module_at c.args.modules.now c.args.holder).insts in
    subst (λ xs. IsLeastBranch s c.args.free.now c.args.marks.now xs c.loop-inst.best)
    (take_all c.loop-inst.inst insts (omega (arith, c.loop-inst-test.false, c.module-inst-end.ensures.insts))) (c.loop-inst.invariant s types row)
