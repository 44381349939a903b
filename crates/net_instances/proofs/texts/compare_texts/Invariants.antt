use Rattle.std.proofs.Common.{◌+◌, ◌-◌, ◌≤◌}
use Rattle.design_defs.specs.Hierarchy.{Way}
use Rattle.net_instances.specs.Ways.{IsDown}
use Rattle.net_instances.proofs.TextLemmas.{AreBoth}
use Rattle.net_instances.proofs.texts.compare_texts.Given as goal

abbrev pub invariant-loop-order : goal.invariant-loop-order
invariant-loop-order l = record {
  within : (l.left ≤ l.a) × (l.right ≤ l.b);
  both : (v w : Way) → IsDown l.modules.symbols l.rows 0 l.a v → IsDown l.modules.symbols l.rows 0 l.b w
      → AreBoth l.modules.symbols l.rows l.a l.b l.left l.right l.left_rest l.right_rest v w;
}

abbrev pub decreases-loop-order : goal.decreases-loop-order
decreases-loop-order l = (l.a - l.left) + (l.b - l.right)
