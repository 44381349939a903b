use Rattle.std.proofs.Common.{◌<◌, get_or, length, take, sym, subst, arith}
use Rattle.std.proofs.lemmas.List.{take_all, take_more}
use Rattle.std.proofs.lemmas.Option.{slice_get-get_or}
use Rattle.design_defs.specs.Hierarchy.{type_of}
use Rattle.module_rows.specs.Reads.{module_at, no_inst}
use Rattle.net_least.specs.Lines.{IsLeastLine}
use Rattle.net_least.specs.Recursion.{IsOfMarked}
use Rattle.net_least.proofs.FirstLines.{line_step}
use Rattle.net_least.proofs.Marking.{module_in_type, type_of_module_in}
use Rattle.net_least.proofs.RowItems.{item_of_row}
use Rattle.net_least.proofs.recursion.first_closing.Goals as goal

pub loop-inst-preserved : goal.loop-inst-preserved
loop-inst-preserved c s row =
    let insts = (module_at c.args.modules.now c.args.holder).insts in
    let marks = c.args.marks.now in
    let n = c.loop-inst.inst in
    let within : n < length insts = omega (arith, c.loop-inst-test.true, c.module-inst-end.ensures.insts) in
    let i = get_or insts n no_inst in
    let at = item_of_row s insts c.args.row.now row n i (slice_get-get_or insts n no_inst within) in
    let more =
    line_step (IsOfMarked s marks) c.args.modules.now.symbols (take n insts) i c.is_closing.result (
      λ t. let has = c.is_closing.ensures.0 t in (has.0, type_of_module_in c.args.row.now n has.0 (type_of s i.kind) at has.1, has.2),
      λ has. c.is_closing.ensures.1 (has.0, module_in_type c.args.row.now n has.0 (type_of s i.kind) at has.1, has.2),
    ) c.loop-inst.least c.with_inst-least.result c.with_inst-least.ensures.skip c.with_inst-least.ensures.next (c.loop-inst.invariant s row) in
    subst (λ xs. IsLeastLine (IsOfMarked s marks) c.args.modules.now.symbols xs c.with_inst-least.result) (sym (take_more insts n no_inst within)) more

pub returns : goal.returns
returns c s row =
    let insts = (module_at c.args.modules.now c.args.holder).insts in
    subst (λ xs. IsLeastLine (IsOfMarked s c.args.marks.now) c.args.modules.now.symbols xs c.loop-inst.least)
    (take_all c.loop-inst.inst insts (omega (arith, c.loop-inst-test.false, c.module-inst-end.ensures.insts))) (c.loop-inst.invariant s row)
