use Rattle.std.proofs.Common.{◌≡◌, true, take}
use Rattle.std.specs.List.{list_all}
use Rattle.supply_defs.specs.Conditions.{speaks_below}
use Rattle.probe.proofs.conditions.+speaks.Given as goal

-- the conditions so far speak of these supplies alone
abbrev pub invariant-all_speak-loop-part : goal.invariant-all_speak-loop-part
invariant-all_speak-loop-part l = list_all (speaks_below l.count) (take l.part-index l.parts) ≡ true
