use Rattle.std.proofs.Common.{◌+◌, ◌<◌, List, length, take, subst, arith}
use Rattle.std.proofs.lemmas.List.{take_all}
use Rattle.pw_defs.specs.declared.netlist.Port.{Port}
use Rattle.module_rows.specs.Reads.{module_at}
use Rattle.net_places.specs.Gathered.{Gathers}
use Rattle.net_places.specs.Mentions.{of_ports}
use Rattle.net_places.proofs.Mentioning.{gathers_also, gathers_none}
use Rattle.net_places.proofs.Steps.{port_more}
use Rattle.net_places.proofs.lines.mention_ports.Goals as goal

pub loop-number-init : goal.loop-number-init
loop-number-init c = gathers_none c.args.modules.now.symbols c.args.mark c.args.gathering.now

pub loop-number-preserved : goal.loop-number-preserved
loop-number-preserved c =
    let n = c.args.modules.now in
    let ports = (module_at n c.args.holder).ports in
    let i = c.loop-number.number in
    let within : i < length ports = omega (arith, c.module-number-end.ensures.ports) in
    gathers_also n.symbols c.args.mark c.args.gathering.now c.loop-number.gathering c.mention_net.new.gathering (of_ports 0 (take i ports)) _
    (of_ports 0 (take (i + 1) ports)) c.loop-number.invariant c.in_ok-mention_net.ensures (port_more n ports i c.port-port.result within c.port-port.ensures)

pub returns : goal.returns
returns c =
    let n = c.args.modules.now in
    let ports = (module_at n c.args.holder).ports in
    let P : List Port → Type 0 = λ some. Gathers n.symbols c.args.mark c.args.gathering.now c.loop-number.gathering (of_ports 0 some) in
    subst P (take_all c.loop-number.number ports (omega (arith, c.module-number-end.ensures.ports))) c.loop-number.invariant
