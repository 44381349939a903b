use Rattle.std.proofs.Common.{◌+◌, ◌<◌, List, length, map, take, subst, arith}
use Rattle.std.proofs.lemmas.List.{take_all}
use Rattle.pw_defs.specs.declared.netlist.Net.{Net}
use Rattle.module_rows.specs.Reads.{module_at}
use Rattle.net_places.specs.Gathered.{Gathers}
use Rattle.net_places.specs.Mentions.{of_wire}
use Rattle.net_places.proofs.Mentioning.{gathers_also, gathers_none}
use Rattle.net_places.proofs.Steps.{wire_more}
use Rattle.net_places.proofs.lines.mention_wires.Goals as goal

pub loop-number-init : goal.loop-number-init
loop-number-init c = gathers_none c.args.modules.now.symbols c.args.mark c.args.gathering.now

pub loop-number-preserved : goal.loop-number-preserved
loop-number-preserved c =
    let n = c.args.modules.now in
    let wires = (module_at n c.args.holder).nets in
    let i = c.loop-number.number in
    let within : i < length wires = omega (arith, c.module-number-end.ensures.nets) in
    gathers_also n.symbols c.args.mark c.args.gathering.now c.loop-number.gathering c.mention_net.new.gathering (map of_wire (take i wires)) _
    (map of_wire (take (i + 1) wires)) c.loop-number.invariant c.in_ok-mention_net.ensures (wire_more n wires i c.net-wire.result within c.net-wire.ensures)

pub returns : goal.returns
returns c =
    let n = c.args.modules.now in
    let wires = (module_at n c.args.holder).nets in
    let P : List Net → Type 0 = λ some. Gathers n.symbols c.args.mark c.args.gathering.now c.loop-number.gathering (map of_wire some) in
    subst P (take_all c.loop-number.number wires (omega (arith, c.module-number-end.ensures.nets))) c.loop-number.invariant
