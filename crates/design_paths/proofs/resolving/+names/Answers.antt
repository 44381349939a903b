use Rattle.std.proofs.Common.{◌<◌, length, inl, inr, sym, subst, arith}
use Rattle.std.proofs.lemmas.Bool.{cases_eq}
use Rattle.design_paths.specs.Ways.{HasNoneBehind}
use Rattle.design_paths.proofs.WayLemmas.{behind_from, below_from, front_shorter, inside_from, inside_within}
use Rattle.design_paths.proofs.resolving.+names.Goals as goal

pub named_below-named_deeper-requires : goal.named_below-named_deeper-requires
named_below-named_deeper-requires t c = (omega arith, c.requires)

pub named_below-returns-in-None : goal.named_below-returns-in-None
named_below-returns-in-None t c =
    below_from c.args.design.now c.names.ensures c.args.inst c.args.name.now c.in-None.ensures c.named_deeper.result c.named_deeper.ensures

pub named_deeper-named_behind-requires : goal.named_deeper-named_behind-requires
named_deeper-named_behind-requires t c = (omega arith, (c.requires, c.loop-at-test.true))

pub named_deeper-loop-at-preserved : goal.named_deeper-loop-at-preserved
named_deeper-loop-at-preserved t c = λ k below.
    elim (cases_eq k c.loop-at.at) [
      | inl same ↦ subst (HasNoneBehind c.args.design.now c.args.inst c.args.name.now) (sym same) c.in-None.ensures
      | inr other ↦ c.loop-at.invariant k (omega (arith, below))
    ]

pub named_deeper-returns : goal.named_deeper-returns
named_deeper-returns t c = λ k n front rest long split child.
    let shorter : length front < length c.args.name.now = subst (λ xs. length front < length xs) (sym split) (front_shorter front rest 47) in
    c.loop-at.invariant k (omega (arith, c.loop-at-test.false, shorter, long)) n front rest long split child

pub named_behind-named_inside-requires : goal.named_behind-named_inside-requires
named_behind-named_inside-requires t c = (omega (arith, c.in-Some.ensures.shorter), c.requires.within)

pub named_behind-returns-in-Some : goal.named_behind-returns-in-Some
named_behind-returns-in-Some t c =
    behind_from c.args.design.now c.args.inst c.args.at c.args.name.now c.in-Some.front.now c.in-Some.rest.now c.in-Some.ensures c.named_inside.result c.named_inside.ensures

pub named_inside-named_below-requires : goal.named_inside-named_below-requires
named_inside-named_below-requires t c =
    (omega arith, inside_within c.args.design.now c.args.inst c.in-Some.child c.args.front.now c.in-Some.ensures)

pub named_inside-returns-in-Some : goal.named_inside-returns-in-Some
named_inside-returns-in-Some t c =
    inside_from c.args.design.now c.names.ensures c.sound.ensures.parents_first c.sound.ensures.own_names c.args.inst c.in-Some.child c.args.front.now c.args.rest.now c.in-Some.ensures c.named_below.result c.named_below.ensures
