use Rattle.std.proofs.Common.{◌≡◌, ◌≤◌, sym, subst, arith}
use Rattle.net_instances.specs.Trees.{parent_in}
use Rattle.net_instances.proofs.DownLemmas.{IsOnWay, on_way_end, one_up, parent_lower, step_found}
use Rattle.net_instances.proofs.texts.step_down.Goals as goal

pub loop-parent-init : goal.loop-parent-init
loop-parent-init c = record {
  is_parent = c.parent_in-parent.ensures.is;
  within = λ lt. (lt, omega arith);
  on_way = λ symbols way lt down. on_way_end symbols c.args.rows.now c.args.from c.args.to way down;
}

pub loop-parent-preserved : goal.loop-parent-preserved
loop-parent-preserved c = record {
  is_parent = c.parent_in-parent-in-loop-parent.ensures.is;
  within = λ lt.
      let old = c.loop-parent.invariant.within lt in
      let lower = parent_lower c.args.rows.now c.loop-parent.below (omega (arith, old.0)) in
      let is_parent : c.loop-parent.parent ≡ parent_in c.args.rows.now c.loop-parent.below = c.loop-parent.invariant.is_parent in
      (c.loop-parent-test.true, omega (arith, lower, is_parent, old.1));
  on_way = λ symbols way lt down.
      let old = c.loop-parent.invariant.within lt in
      let lower = parent_lower c.args.rows.now c.loop-parent.below (omega (arith, old.0)) in
      subst (IsOnWay symbols c.args.rows.now c.args.from c.args.to way) (sym c.loop-parent.invariant.is_parent)
      (one_up symbols c.args.rows.now c.args.from c.args.to way c.loop-parent.below old.0 lower (c.loop-parent.invariant.on_way symbols way lt down));
}

pub returns-clause-step : goal.returns-clause-step
returns-clause-step c symbols way lt down =
    let is_parent : c.loop-parent.parent ≡ parent_in c.args.rows.now c.loop-parent.below = c.loop-parent.invariant.is_parent in
    let past : c.loop-parent.parent ≤ c.args.from = c.loop-parent-test.false in
    step_found symbols c.args.rows.now c.args.from c.args.to way c.loop-parent.below (c.loop-parent.invariant.within lt).0 (omega (arith, is_parent, past))
    (c.loop-parent.invariant.on_way symbols way lt down)
