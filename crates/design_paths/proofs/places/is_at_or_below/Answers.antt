use Rattle.std.proofs.Common.{◌<◌, arith}
use Rattle.std.proofs.lemmas.Bool.{eqb-true, eq-eqb}
use Rattle.design_defs.specs.Alike.{IsAtOrBelow}
use Rattle.design_paths.proofs.BelowLemmas.{not_before, up}
use Rattle.design_paths.proofs.places.is_at_or_below.Goals as goal

pub loop-at-preserved : goal.loop-at-preserved
loop-at-preserved c =
    let d = c.args.design.now in
    let at = c.loop-at.at in
    let p = c.in-Some.parent in
    let inside = c.in-Some.ensures in
    let before : p < at = (c.sound.ensures.parents_first at p inside).0 in
    let same = c.loop-at.invariant.same in
    record {
      within = omega (arith, before, c.loop-at.invariant.within);
      same = ((λ below. same.0 (IsAtOrBelow.inside at p inside below)), (λ below. up d c.args.top at p inside c.loop-at-test.true (same.1 below)));
    }

pub returns : goal.returns
returns c =
    let d = c.args.design.now in
    let at = c.loop-at.at in
    let same = c.loop-at.invariant.same in
    let past = c.loop-at-test.false in
    let first = c.sound.ensures.parents_first in
    ((λ here. same.0 (IsAtOrBelow.at at (eqb-true at c.args.top here))), (λ below. eq-eqb at c.args.top (omega (arith, past, not_before d first c.args.top at (same.1 below)))))
