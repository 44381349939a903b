use Rattle.std.proofs.Common.{◌<◌, Some, None, get_or, length, take, sym, ap, ◌∙◌, subst, arith}
use Rattle.std.proofs.lemmas.List.{take_all, take_more}
use Rattle.std.proofs.lemmas.Option.{same_Some, slice_get-get_or}
use Rattle.design_defs.specs.Hierarchy.{type_of}
use Rattle.module_rows.specs.Reads.{module_at, no_inst}
use Rattle.net_least.specs.Lines.{IsLeastLine, IsUnknown}
use Rattle.net_least.proofs.FirstLines.{line_step}
use Rattle.net_least.proofs.RowItems.{item_of_row}
use Rattle.net_least.proofs.unknown.first_unknown.Goals as goal

pub loop-inst-preserved : goal.loop-inst-preserved
loop-inst-preserved c s row =
    let insts = (module_at c.args.modules.now c.args.holder).insts in
    let n = c.loop-inst.inst in
    let within : n < length insts = omega (arith, c.loop-inst-test.true, c.module-inst-end.ensures.insts) in
    let i = get_or insts n no_inst in
    let at = item_of_row s insts c.args.row.now row n i (slice_get-get_or insts n no_inst within) in
    let symbols = c.args.modules.now.symbols in
    let known = c.loop-inst.invariant s row in
    let more =
    line_step (IsUnknown s) symbols (take n insts) i c.is_unknown.result
    (λ t. same_Some (type_of s i.kind) None (sym at ∙ c.is_unknown.ensures.0 t), λ none. c.is_unknown.ensures.1 (at ∙ ap Some none)) c.loop-inst.least
    c.with_inst-least.result c.with_inst-least.ensures.skip c.with_inst-least.ensures.next known in
    subst (λ xs. IsLeastLine (IsUnknown s) symbols xs c.with_inst-least.result) (sym (take_more insts n no_inst within)) more

pub returns : goal.returns
returns c s row =
    let insts = (module_at c.args.modules.now c.args.holder).insts in
    subst (λ xs. IsLeastLine (IsUnknown s) c.args.modules.now.symbols xs c.loop-inst.least) (take_all c.loop-inst.inst insts (omega (arith, c.loop-inst-test.false, c.module-inst-end.ensures.insts)))
    (c.loop-inst.invariant s row)
