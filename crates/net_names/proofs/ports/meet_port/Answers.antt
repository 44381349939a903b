use Rattle.std.proofs.Common.{sym, ◌∙◌}
use Rattle.net_names.proofs.Steps.{scalar_met, vector_met}
use Rattle.net_names.proofs.ports.meet_port.Goals as goal

pub returns-in-Some : goal.returns-in-Some
returns-in-Some c =
    vector_met c.args.place c.args.path.now c.args.name.now c.as_slice.result.now c.as_slice-in-Some.result.now c.args.range c.in-Some.range c.args.meeting.now c.meet.new.meeting
    c.meet_bits.new.meeting (c.as_slice.ensures.bytes ∙ c.in_ok-text.ensures) (c.as_slice-in-Some.ensures.bytes ∙ sym c.as_slice.ensures.bytes) c.in-Some.is c.in_ok-meet.ensures
    c.in_ok-meet_bits-in-Some.ensures

pub returns : goal.returns
returns c =
    scalar_met c.args.place c.args.path.now c.args.name.now c.as_slice.result.now c.args.range c.args.meeting.now c.meet.new.meeting (c.as_slice.ensures.bytes ∙ c.in_ok-text.ensures)
    c.in-None.is c.in_ok-meet.ensures
