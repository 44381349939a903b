use Rattle.std.proofs.Common.{◌+◌, ◌<◌, List, length, map, take, subst, arith}
use Rattle.std.proofs.lemmas.List.{take_all}
use Rattle.pw_defs.specs.declared.netlist.Inst.{Inst}
use Rattle.module_rows.specs.Reads.{module_at}
use Rattle.net_places.specs.Gathered.{Gathers}
use Rattle.net_places.specs.Mentions.{of_inst}
use Rattle.net_places.proofs.Mentioning.{gathers_also, gathers_none}
use Rattle.net_places.proofs.Steps.{inst_next}
use Rattle.net_places.proofs.lines.mention_insts.Goals as goal

pub loop-number-init : goal.loop-number-init
loop-number-init c = gathers_none c.args.modules.now.symbols c.args.mark c.args.gathering.now

pub loop-number-preserved : goal.loop-number-preserved
loop-number-preserved c =
    let n = c.args.modules.now in
    let insts = (module_at n c.args.holder).insts in
    let i = c.loop-number.number in
    let within : i < length insts = omega (arith, c.module-number-end.ensures.insts) in
    gathers_also n.symbols c.args.mark c.args.gathering.now c.loop-number.gathering c.mention_inst.new.gathering (map of_inst (take i insts)) _
    (map of_inst (take (i + 1) insts)) c.loop-number.invariant c.mention_inst.ensures (inst_next n insts i c.inst.result within c.inst.ensures)

pub returns : goal.returns
returns c =
    let n = c.args.modules.now in
    let insts = (module_at n c.args.holder).insts in
    let P : List Inst → Type 0 = λ some. Gathers n.symbols c.args.mark c.args.gathering.now c.loop-number.gathering (map of_inst some) in
    subst P (take_all c.loop-number.number insts (omega (arith, c.module-number-end.ensures.insts))) c.loop-number.invariant
