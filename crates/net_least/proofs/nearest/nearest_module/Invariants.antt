use Rattle.std.proofs.Common.{◌≡◌, Some, take}
use Rattle.design_defs.specs.Hierarchy.{Sources, module_named, AreNamedInsts}
use Rattle.net_hierarchy.specs.Graph.{AreInstsApart, IsOrder, types_of}
use Rattle.net_least.specs.Nearest.{AreAllNear}
use Rattle.net_least.proofs.nearest.nearest_module.Given as goal

abbrev pub invariant-loop-number : goal.invariant-loop-number
invariant-loop-number l = (s : Sources) → AreNamedInsts s → AreInstsApart s → s.modules ≡ l.modules.modules → l.types ≡ types_of s
    → module_named s s.top ≡ Some l.top → IsOrder (types_of s) l.top l.order → AreAllNear s l.own l.modules.symbols l.links l.nears.items (take l.number-index l.order)
