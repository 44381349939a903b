use Rattle.std.proofs.Common.{List, ℕ, ap, ◌∙◌}
use Rattle.pw_defs.specs.declared.netlist.Port.{Port}
use Rattle.net_names.specs.Meets.{met_all, port_at}
use Rattle.net_names.proofs.Steps.{met_none, names_more}
use Rattle.net_names.proofs.ports.meet_ports.Goals as goal

pub loop-port-init : goal.loop-port-init
loop-port-init c = met_none c.args.meeting.now

pub loop-port-preserved : goal.loop-port-preserved
loop-port-preserved c =
    let x = c.port-item.result in
    names_more (λ (p : Port). port_at c.args.place c.args.path.now p.name p.range) c.args.ports.now c.loop-port.port-index x c.args.meeting.now c.loop-port.meeting c.meet_port.new.meeting
    c.loop-port-test.true c.port-item.is c.loop-port.invariant
    (c.in_ok-meet_port.ensures ∙ ap (λ (t : List ℕ). met_all c.loop-port.meeting (port_at c.args.place c.args.path.now t x.range)) c.as_slice.ensures.bytes)
