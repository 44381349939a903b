use Rattle.std.proofs.Common.{◌≡◌, take}
use Rattle.module_rows.specs.Reads.{module_at}
use Rattle.net_names.specs.Meets.{met_all, ports_at}
use Rattle.net_names.proofs.ports.meet_module.Given as goal

abbrev pub invariant-loop-number : goal.invariant-loop-number
invariant-loop-number l = l.meeting ≡ met_all l.initial.meeting (ports_at l.place l.path (take l.number (module_at l.modules l.holder).ports))
