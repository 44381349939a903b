use Rattle.std.proofs.Common.{◌≡◌, ℕ, Some, length, take}
use Rattle.design_defs.specs.Hierarchy.{Sources, module_named}
use Rattle.net_hierarchy.specs.Graph.{AreInstsApart, IsOrder, types_of}
use Rattle.net_sizes.specs.Sizes.{AreCounted, AreSized}
use Rattle.net_sizes.specs.Under.{Own}
use Rattle.net_sizes.proofs.sizes.sizes_of.Given as goal

abbrev pub invariant-loop-number : goal.invariant-loop-number
invariant-loop-number l = record {
  count : length l.totals.items ≡ length l.types;
  sized : (s : Sources) → (own : Own) → (top : ℕ) → l.types ≡ types_of s → module_named s s.top ≡ Some top → AreInstsApart s
      → IsOrder (types_of s) top l.order → AreCounted s own l.counts l.most → AreSized s own l.most l.totals.items (take l.number-index l.order);
}
