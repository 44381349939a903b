use Rattle.std.proofs.Common.{◌≡◌, ◌++◌, drop}
use Rattle.pw_defs.proofs.conditions.+copy.Given as goal

-- those so far and those that are left are all
abbrev pub invariant-copy_conds-loop-cond : goal.invariant-copy_conds-loop-cond
invariant-copy_conds-loop-cond l = l.all ++ drop l.cond-index l.conds ≡ l.conds
