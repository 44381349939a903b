use Rattle.std.proofs.Common.{◌+◌}
use Rattle.design_defs.specs.Hierarchy.{Way}
use Rattle.net_instances.specs.Ways.{AreNamed, IsDown}
use Rattle.net_instances.proofs.TextLemmas.{AreOuter}
use Rattle.net_instances.proofs.texts.compare.Given as goal

abbrev pub invariant-loop-left : goal.invariant-loop-left
invariant-loop-left l = (v w : Way) → IsDown l.modules.symbols l.rows 0 l.a v → IsDown l.modules.symbols l.rows 0 l.b w → AreNamed v → AreNamed w
    → AreOuter l.modules.symbols l.rows l.left l.right v w

abbrev pub decreases-loop-left : goal.decreases-loop-left
decreases-loop-left l = l.left + l.right
