use Rattle.std.proofs.Common.{◌≡◌, true}
use Rattle.std.specs.List.{list_all}
use Rattle.supply_defs.specs.Conditions.{speaks_below}
use Rattle.bench.specs.Links.{levels_of}
use Rattle.bench.proofs.joined.conditions.Given as goal

abbrev pub invariant-loop-at : goal.invariant-loop-at
invariant-loop-at l = list_all (speaks_below (levels_of l.link l.count)) l.conds ≡ true
