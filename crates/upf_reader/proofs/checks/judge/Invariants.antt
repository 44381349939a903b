use Rattle.std.proofs.Common.{map, take}
use Rattle.upf_reader.specs.Judging.{AreItemsFormed}
use Rattle.upf_reader.specs.Parts.{part_view}
use Rattle.upf_reader.specs.Rows.{command_view}
use Rattle.upf_reader.proofs.checks.judge.Given as goal

abbrev pub invariant-loop-at : goal.invariant-loop-at
invariant-loop-at l = AreItemsFormed (command_view l.row) (map part_view (take l.at l.parts)) l.lists
