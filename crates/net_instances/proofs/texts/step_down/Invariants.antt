use Rattle.std.proofs.Common.{◌≡◌, ◌<◌, ◌≤◌, ℕ, List}
use Rattle.design_defs.specs.Hierarchy.{Way}
use Rattle.net_instances.specs.Trees.{parent_in}
use Rattle.net_instances.specs.Ways.{IsDown}
use Rattle.net_instances.proofs.DownLemmas.{IsOnWay}
use Rattle.net_instances.proofs.texts.step_down.Given as goal

abbrev pub invariant-loop-parent : goal.invariant-loop-parent
invariant-loop-parent l = record {
  is_parent : l.parent ≡ parent_in l.rows l.below;
  within : l.from < l.to → (l.from < l.below) × (l.below ≤ l.to);
  on_way : (symbols : List (List ℕ)) → (way : Way) → l.from < l.to → IsDown symbols l.rows l.from l.to way → IsOnWay symbols l.rows l.from l.to way l.below;
}

abbrev pub decreases-loop-parent : goal.decreases-loop-parent
decreases-loop-parent l = l.parent
