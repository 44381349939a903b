use Rattle.std.proofs.Common.{◌<◌, None, get_or, length, arith}
use Rattle.std.proofs.lemmas.Option.{slice_get-get_or}
use Rattle.module_rows.specs.Reads.{module_at, no_inst}
use Rattle.net_widths.specs.Refusals.{widths_of_inst}
use Rattle.net_widths.proofs.Steps.{all_finds, step_finds}
use Rattle.net_widths.proofs.widths.insts_widths.Goals as goal

pub loop-inst-preserved : goal.loop-inst-preserved
loop-inst-preserved c s seen opened row =
    let n = c.args.spellings.now.modules.now in
    let m = module_at n c.args.holder in
    let k = c.loop-inst.inst in
    let within : k < length m.insts = omega (arith, c.loop-inst-test.true, c.module-inst-end.ensures.insts) in
    let kind = c.type_in-kind.ensures s m.insts (get_or m.insts k no_inst) row (slice_get-get_or m.insts k no_inst within) in
    step_finds n.symbols (widths_of_inst s m) m.insts k no_inst None c.loop-inst.least c.in_ok-least.least within (c.loop-inst.invariant s seen opened row)
    (c.in_ok-least.ensures s seen opened kind)

pub returns : goal.returns
returns c s seen opened row =
    let n = c.args.spellings.now.modules.now in
    let m = module_at n c.args.holder in
    all_finds n.symbols (widths_of_inst s m) m.insts c.loop-inst.inst None c.loop-inst.least (omega (arith, c.loop-inst-test.false, c.module-inst-end.ensures.insts))
    (c.loop-inst.invariant s seen opened row)
