use Rattle.std.proofs.Common.{List, None, ℕ, ap, ◌∙◌}
use Rattle.net_names.specs.Meets.{met_all, port_at}
use Rattle.net_names.proofs.Steps.{met_none, pins_more}
use Rattle.net_names.proofs.ports.meet_pins.Goals as goal

pub loop-pin-init : goal.loop-pin-init
loop-pin-init c = met_none c.args.meeting.now

pub loop-pin-preserved : goal.loop-pin-preserved
loop-pin-preserved c =
    pins_more c.args.place c.args.path.now c.args.pins.now c.loop-pin.pin-index c.pin-item.result c.args.meeting.now c.loop-pin.meeting c.meet_port.new.meeting c.loop-pin-test.true
    c.pin-item.is c.loop-pin.invariant
    (c.in_ok-meet_port.ensures ∙ ap (λ (t : List ℕ). met_all c.loop-pin.meeting (port_at c.args.place c.args.path.now t None)) c.as_slice.ensures.bytes)
