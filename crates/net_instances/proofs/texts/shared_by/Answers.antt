use Rattle.std.proofs.Common.{◌≡◌, ◌<◌, ◌≤◌, sym, subst, arith}
use Rattle.net_instances.proofs.DownLemmas.{IsOnWay, on_way_end, one_up, parent_lower, shared_found}
use Rattle.net_instances.proofs.texts.shared_by.Goals as goal

pub loop-left-init : goal.loop-left-init
loop-left-init c = record {
  within = (omega arith, omega arith);
  on_left = λ symbols v down. on_way_end symbols c.args.rows.now 0 c.args.a v down;
  on_right = λ symbols w down. on_way_end symbols c.args.rows.now 0 c.args.b w down;
}

pub loop-left-preserved-then-left-right : goal.loop-left-preserved-then-left-right
loop-left-preserved-then-left-right c =
    let less : c.loop-left.left < c.loop-left.right = c.if-left-right.true in
    let above : 0 < c.loop-left.right = omega (arith, less) in
    let lower = c.parent_in-right.ensures.lower above in
    record {
      within = (c.loop-left.invariant.within.0, omega (arith, lower, c.loop-left.invariant.within.1));
      on_left = c.loop-left.invariant.on_left;
      on_right = λ symbols w down. subst (IsOnWay symbols c.args.rows.now 0 c.args.b w) (sym c.parent_in-right.ensures.is)
          (one_up symbols c.args.rows.now 0 c.args.b w c.loop-left.right above (parent_lower c.args.rows.now c.loop-left.right above)
          (c.loop-left.invariant.on_right symbols w down));
    }

pub loop-left-preserved : goal.loop-left-preserved
loop-left-preserved c =
    let more : c.loop-left.right ≤ c.loop-left.left = c.if-left-right.false in
    let above : 0 < c.loop-left.left = omega (arith, more, c.loop-left-test.true) in
    let lower = c.parent_in-left.ensures.lower above in
    record {
      within = (omega (arith, lower, c.loop-left.invariant.within.0), c.loop-left.invariant.within.1);
      on_left = λ symbols v down. subst (IsOnWay symbols c.args.rows.now 0 c.args.a v) (sym c.parent_in-left.ensures.is)
          (one_up symbols c.args.rows.now 0 c.args.a v c.loop-left.left above (parent_lower c.args.rows.now c.loop-left.left above)
          (c.loop-left.invariant.on_left symbols v down));
      on_right = c.loop-left.invariant.on_right;
    }

pub returns-clause-shared : goal.returns-clause-shared
returns-clause-shared c symbols v w of_a of_b =
    let same : c.loop-left.left ≡ c.loop-left.right = c.loop-left-test.false in
    shared_found symbols c.args.rows.now c.args.a c.args.b c.loop-left.left v w (c.loop-left.invariant.on_left symbols v of_a)
    (subst (IsOnWay symbols c.args.rows.now 0 c.args.b w) (sym same) (c.loop-left.invariant.on_right symbols w of_b))
