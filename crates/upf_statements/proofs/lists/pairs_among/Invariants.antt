use Rattle.std.proofs.Common.{take}
use Rattle.std.specs.List.{AllZip}
use Rattle.upf_statements.proofs.SaidLemmas.{IsPairOf}
use Rattle.upf_statements.proofs.lists.pairs_among.Given as goal

abbrev pub invariant-loop-item : goal.invariant-loop-item
invariant-loop-item l = AllZip IsPairOf (take l.item-index l.items) l.pairs
