use Rattle.std.proofs.Common.{take}
use Rattle.upf_reader.specs.Faults.{ArePairsFormed}
use Rattle.upf_reader.proofs.values.pairs_formed.Given as goal

abbrev pub invariant-loop-item : goal.invariant-loop-item
invariant-loop-item l = ArePairsFormed (take l.item-index l.items) l.lists
