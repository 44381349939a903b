use Rattle.std.proofs.Common.{List, ap, sym, ◌∙◌}
use Rattle.pw_defs.specs.declared.netlist.Port.{Port}
use Rattle.net_names.specs.Meets.{met_all, ports_at}
use Rattle.net_names.proofs.ports.meet_model.Goals as goal

pub returns-in_ok-meet_ports-in-Some : goal.returns-in_ok-meet_ports-in-Some
returns-in_ok-meet_ports-in-Some c = record {
  m = c.in-Some.model.now;
  there = sym c.in-Some.ensures;
  met_so = c.in_ok-meet_ports-in-Some.ensures
      ∙ ap (λ (ps : List Port). met_all c.args.meeting.now (ports_at c.args.place c.args.path.now ps)) c.as_slice.ensures.items;
}
