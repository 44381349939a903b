-- A part of a condition speaks of no other supplies than the whole.
use Rattle.std.proofs.Common.{rules, length}
use Rattle.pw_defs.specs.declared.conditions.Cond.{the_lemmas}
use Rattle.supply_defs.proofs.Meaning.{speaks_not, speaks_all, speaks_any}
use Rattle.state_lists.proofs.evaluation.+eval.Goals as goal

pub eval-eval-requires : goal.eval-eval-requires
eval-eval-requires t c = (search (rules, the_lemmas), cc (speaks_not (length c.args.values.now) c.in-Not.part))

pub eval-all_hold-requires : goal.eval-all_hold-requires
eval-all_hold-requires t c =
    (search (rules, the_lemmas), cc (speaks_all (length c.args.values.now) c.in-All.parts, c.as_slice.ensures.items))

pub eval-any_holds-requires : goal.eval-any_holds-requires
eval-any_holds-requires t c =
    (search (rules, the_lemmas), cc (speaks_any (length c.args.values.now) c.in-Any.parts, c.as_slice-in-Any.ensures.items))
