use Rattle.std.proofs.Common.{◌<◌, None, get_or, length, arith}
use Rattle.std.proofs.lemmas.Option.{slice_get-get_or}
use Rattle.module_rows.specs.Reads.{module_at, no_inst}
use Rattle.net_widths.specs.Refusals.{ports_of_inst}
use Rattle.net_widths.proofs.Steps.{all_finds, step_finds}
use Rattle.net_widths.proofs.ports.module_ports.Goals as goal

pub loop-inst-preserved : goal.loop-inst-preserved
loop-inst-preserved c s seen row =
    let n = c.args.spellings.now.modules.now in
    let insts = (module_at n c.args.holder).insts in
    let k = c.loop-inst.inst in
    let within : k < length insts = omega (arith, c.loop-inst-test.true, c.module-inst-end.ensures.insts) in
    let kind = c.type_in-kind.ensures s insts (get_or insts k no_inst) row (slice_get-get_or insts k no_inst within) in
    step_finds n.symbols (ports_of_inst s) insts k no_inst None c.loop-inst.least c.inst_ports-least.result within (c.loop-inst.invariant s seen row) (c.inst_ports-least.ensures s seen kind)

pub returns : goal.returns
returns c s seen row =
    let n = c.args.spellings.now.modules.now in
    let insts = (module_at n c.args.holder).insts in
    all_finds n.symbols (ports_of_inst s) insts c.loop-inst.inst None c.loop-inst.least (omega (arith, c.loop-inst-test.false, c.module-inst-end.ensures.insts))
    (c.loop-inst.invariant s seen row)
