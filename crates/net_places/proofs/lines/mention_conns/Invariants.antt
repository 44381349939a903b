use Rattle.std.proofs.Common.{take}
use Rattle.std.specs.List.{flat_map}
use Rattle.module_rows.specs.Reads.{inst_at}
use Rattle.net_places.specs.Gathered.{Gathers}
use Rattle.net_places.specs.Mentions.{of_conn}
use Rattle.net_places.proofs.lines.mention_conns.Given as goal

abbrev pub invariant-loop-conn : goal.invariant-loop-conn
invariant-loop-conn l = Gathers l.modules.symbols l.mark l.initial.gathering l.gathering (flat_map of_conn (take l.conn (inst_at l.modules l.holder l.inst).conns))
