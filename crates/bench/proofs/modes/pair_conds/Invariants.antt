use Rattle.std.proofs.Common.{◌≡◌, true}
use Rattle.std.specs.List.{list_all}
use Rattle.supply_defs.specs.Conditions.{speaks_below}
use Rattle.bench.proofs.modes.pair_conds.Given as goal

abbrev pub invariant-loop-at : goal.invariant-loop-at
invariant-loop-at l = list_all (speaks_below l.roots) l.conds ≡ true
