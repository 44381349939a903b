use Rattle.std.proofs.Common.{◌≡◌, true, false, take}
use Rattle.std.specs.List.{list_all, list_any}
use Rattle.supply_defs.specs.Conditions.{holds}
use Rattle.supply_defs.specs.States.{value_in}
use Rattle.state_lists.proofs.evaluation.+eval.Given as goal

-- the conditions so far hold
abbrev pub invariant-all_hold-loop-cond : goal.invariant-all_hold-loop-cond
invariant-all_hold-loop-cond l = list_all (holds (value_in l.values)) (take l.cond-index l.conds) ≡ true

-- none of the conditions so far holds
abbrev pub invariant-any_holds-loop-cond : goal.invariant-any_holds-loop-cond
invariant-any_holds-loop-cond l = list_any (holds (value_in l.values)) (take l.cond-index l.conds) ≡ false
