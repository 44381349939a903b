use Rattle.std.proofs.Common.{◌≡◌, ℕ, Some, length, take}
use Rattle.design_defs.specs.Hierarchy.{Sources, module_named}
use Rattle.net_sizes.specs.Depths.{AreDeep}
use Rattle.net_hierarchy.specs.Graph.{AreInstsApart, IsOrder, types_of}
use Rattle.net_sizes.proofs.depths.depths_of.Given as goal

abbrev pub invariant-loop-number : goal.invariant-loop-number
invariant-loop-number l = record {
  count : length l.depths.items ≡ length l.types;
  deep : (s : Sources) → (top : ℕ) → l.types ≡ types_of s → module_named s s.top ≡ Some top → AreInstsApart s
      → IsOrder (types_of s) top l.order → AreDeep s l.most l.depths.items (take l.number-index l.order);
}
