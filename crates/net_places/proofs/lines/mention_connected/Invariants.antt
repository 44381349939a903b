use Rattle.std.proofs.Common.{take}
use Rattle.std.specs.List.{flat_map}
use Rattle.module_rows.specs.Reads.{module_at}
use Rattle.net_places.specs.Gathered.{Gathers}
use Rattle.net_places.specs.Mentions.{of_conns}
use Rattle.net_places.proofs.lines.mention_connected.Given as goal

abbrev pub invariant-loop-inst : goal.invariant-loop-inst
invariant-loop-inst l = Gathers l.modules.symbols l.mark l.initial.gathering l.gathering (flat_map of_conns (take l.inst (module_at l.modules l.holder).insts))
