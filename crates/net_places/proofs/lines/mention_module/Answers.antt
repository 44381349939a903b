use Rattle.std.proofs.Common.{◌++◌, map, refl}
use Rattle.std.specs.List.{flat_map}
use Rattle.module_rows.specs.Reads.{module_at}
use Rattle.net_places.specs.Mentions.{of_assign, of_conns, of_inst, of_ports, of_wire}
use Rattle.net_places.proofs.Mentioning.{gathers_also}
use Rattle.net_places.proofs.lines.mention_module.Goals as goal

pub returns : goal.returns
returns c =
    let names = c.args.modules.now.symbols in
    let mark = c.args.mark in
    let m = module_at c.args.modules.now c.args.holder in
    let ports = of_ports 0 m.ports in
    let wires = map of_wire m.nets in
    let insts = map of_inst m.insts in
    let connected = flat_map of_conns m.insts in
    let assigned = flat_map of_assign m.assigns in
    let start = c.args.gathering.now in
    let a = c.mention_ports.new.gathering in
    let b = c.mention_wires.new.gathering in
    let d = c.mention_insts.new.gathering in
    let e = c.mention_connected.new.gathering in
    let f = c.mention_assigns.new.gathering in
    let two = gathers_also names mark start a b ports wires (ports ++ wires) c.in_ok-mention_ports.ensures c.in_ok-mention_wires.ensures refl in
    let three = gathers_also names mark start b d (ports ++ wires) insts (ports ++ wires ++ insts) two c.mention_insts.ensures refl in
    let uses = gathers_also names mark d e f connected assigned (connected ++ assigned) c.in_ok-mention_connected.ensures c.in_ok-mention_assigns.ensures refl in
    gathers_also names mark start d f (ports ++ wires ++ insts) (connected ++ assigned) _ three uses refl
