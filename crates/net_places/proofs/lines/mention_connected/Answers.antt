use Rattle.std.proofs.Common.{◌+◌, ◌<◌, List, length, get_or, take, subst, arith}
use Rattle.std.specs.List.{flat_map}
use Rattle.std.proofs.lemmas.List.{take_all}
use Rattle.pw_defs.specs.declared.netlist.Inst.{Inst}
use Rattle.module_rows.specs.Reads.{module_at, no_inst}
use Rattle.net_places.specs.Gathered.{Gathers}
use Rattle.net_places.specs.Mentions.{of_conns}
use Rattle.net_places.proofs.Mentioning.{gathers_also, gathers_none}
use Rattle.net_places.proofs.Steps.{flat_more}
use Rattle.net_places.proofs.lines.mention_connected.Goals as goal

pub loop-inst-init : goal.loop-inst-init
loop-inst-init c = gathers_none c.args.modules.now.symbols c.args.mark c.args.gathering.now

pub loop-inst-preserved : goal.loop-inst-preserved
loop-inst-preserved c =
    let n = c.args.modules.now in
    let lines = (module_at n c.args.holder).insts in
    let i = c.loop-inst.inst in
    let within : i < length lines = omega (arith, c.module-inst-end.ensures.insts) in
    gathers_also n.symbols c.args.mark c.args.gathering.now c.loop-inst.gathering c.mention_conns.new.gathering (flat_map of_conns (take i lines)) (of_conns (get_or lines i no_inst))
    (flat_map of_conns (take (i + 1) lines)) c.loop-inst.invariant c.in_ok-mention_conns.ensures (flat_more of_conns lines i no_inst within)

pub returns : goal.returns
returns c =
    let n = c.args.modules.now in
    let lines = (module_at n c.args.holder).insts in
    let P : List Inst → Type 0 = λ some. Gathers n.symbols c.args.mark c.args.gathering.now c.loop-inst.gathering (flat_map of_conns some) in
    subst P (take_all c.loop-inst.inst lines (omega (arith, c.module-inst-end.ensures.insts))) c.loop-inst.invariant
