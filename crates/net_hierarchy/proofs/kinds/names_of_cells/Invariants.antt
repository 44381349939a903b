use Rattle.std.proofs.Common.{take}
use Rattle.net_hierarchy.specs.Kinds.{AreFirsts, cell_names}
use Rattle.net_hierarchy.proofs.kinds.names_of_cells.Given as goal

abbrev pub invariant-loop-place : goal.invariant-loop-place
invariant-loop-place l = AreFirsts (cell_names (take l.place l.cells)) l.firsts
