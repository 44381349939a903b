use Rattle.std.proofs.Common.{map, take}
use Rattle.module_rows.specs.Reads.{module_at}
use Rattle.net_places.specs.Gathered.{Gathers}
use Rattle.net_places.specs.Mentions.{of_inst}
use Rattle.net_places.proofs.lines.mention_insts.Given as goal

abbrev pub invariant-loop-number : goal.invariant-loop-number
invariant-loop-number l = Gathers l.modules.symbols l.mark l.initial.gathering l.gathering (map of_inst (take l.number (module_at l.modules l.holder).insts))
