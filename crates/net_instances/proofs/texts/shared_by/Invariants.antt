use Rattle.std.proofs.Common.{◌+◌, ◌≤◌, ℕ, List}
use Rattle.design_defs.specs.Hierarchy.{Way}
use Rattle.net_instances.specs.Ways.{IsDown}
use Rattle.net_instances.proofs.DownLemmas.{IsOnWay}
use Rattle.net_instances.proofs.texts.shared_by.Given as goal

abbrev pub invariant-loop-left : goal.invariant-loop-left
invariant-loop-left l = record {
  within : (l.left ≤ l.a) × (l.right ≤ l.b);
  on_left : (symbols : List (List ℕ)) → (v : Way) → IsDown symbols l.rows 0 l.a v → IsOnWay symbols l.rows 0 l.a v l.left;
  on_right : (symbols : List (List ℕ)) → (w : Way) → IsDown symbols l.rows 0 l.b w → IsOnWay symbols l.rows 0 l.b w l.right;
}

abbrev pub decreases-loop-left : goal.decreases-loop-left
decreases-loop-left l = l.left + l.right
