use Rattle.std.proofs.Common.{List, ap, map, sym, ◌∙◌}
use Rattle.pw_defs.specs.declared.cells.Pin.{Pin}
use Rattle.design_defs.specs.Ports.{port_of_pin}
use Rattle.net_names.specs.Meets.{met_all, ports_at}
use Rattle.net_names.proofs.ports.meet_cell.Goals as goal

pub returns-in_ok-meet_pins-in-Some : goal.returns-in_ok-meet_pins-in-Some
returns-in_ok-meet_pins-in-Some c = record {
  c = c.in-Some.cell.now;
  there = sym c.in-Some.ensures;
  met_so = c.in_ok-meet_pins-in-Some.ensures
      ∙ ap (λ (ps : List Pin). met_all c.args.meeting.now (ports_at c.args.place c.args.path.now (map port_of_pin ps))) c.as_slice.ensures.items;
}
