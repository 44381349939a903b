use Rattle.std.proofs.Common.{take}
use Rattle.std.specs.List.{flat_map}
use Rattle.module_rows.specs.Reads.{module_at}
use Rattle.net_places.specs.Gathered.{Gathers}
use Rattle.net_places.specs.Mentions.{of_assign}
use Rattle.net_places.proofs.lines.mention_assigns.Given as goal

abbrev pub invariant-loop-assign : goal.invariant-loop-assign
invariant-loop-assign l = Gathers l.modules.symbols l.mark l.initial.gathering l.gathering (flat_map of_assign (take l.assign (module_at l.modules l.holder).assigns))
