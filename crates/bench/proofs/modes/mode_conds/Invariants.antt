use Rattle.std.proofs.Common.{◌≡◌, true}
use Rattle.std.specs.List.{list_all}
use Rattle.supply_defs.specs.Conditions.{speaks_below}
use Rattle.bench.proofs.modes.mode_conds.Given as goal

abbrev pub invariant-loop-mode : goal.invariant-loop-mode
invariant-loop-mode l = list_all (speaks_below l.roots) l.conds ≡ true
