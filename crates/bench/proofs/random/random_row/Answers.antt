use Rattle.std.proofs.Common.{◌+◌, subst, sym}
use Rattle.diagram_defs.proofs.Growth.{Grows_trans}
use Rattle.bench.proofs.RowLemmas.{IsRow, IsRow_push, IsRow_grows, picked_row}
use Rattle.bench.proofs.random.random_row.Goals as goal

pub case-requires-clause-below : goal.case-requires-clause-below
case-requires-clause-below c =
    subst (IsRow c.loop.pool (c.args.level + 1)) (sym c.as_slice.ensures.value) (picked_row c.loop.pool (c.args.level + 1) c.args.below.now c.in_ok-kids.kids.items c.loop.invariant.below c.in_ok-kids.ensures.each)

pub loop-preserved : goal.loop-preserved
loop-preserved c =
    let g = c.case.ensures.0.grows in
    record {
      grows = Grows_trans _ _ _ c.loop.invariant.grows g;
      row = subst (IsRow c.case.new.self c.args.level) (sym c.in_ok-push.ensures.items) (IsRow_push c.case.new.self c.args.level c.loop.row.items c.in_ok-n.n (IsRow_grows c.loop.pool c.case.new.self c.args.level c.loop.row.items g c.loop.invariant.row) c.in_ok-n.ensures.1.in_level);
      below = IsRow_grows c.loop.pool c.case.new.self (c.args.level + 1) c.args.below.now g c.loop.invariant.below;
    }
