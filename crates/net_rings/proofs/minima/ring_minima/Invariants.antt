use Rattle.std.proofs.Common.{◌≡◌, ◌+◌, ◌<◌, ◌≤◌, ℕ, List, Some, [], length}
use Rattle.std.specs.List.{slice_get}
use Rattle.list_defs.specs.Members.{IsIn}
use Rattle.net_rings.specs.Fed.{AreRows}
use Rattle.net_rings.specs.Least.{AreAllRanked, AreRanked, IsLeastOfRing, bits_to}
use Rattle.net_rings.specs.Peeled.{AreCounted, IsCore}
use Rattle.net_rings.specs.Search.{AreBelow}
use Rattle.net_rings.specs.declared.minima.Ranked.{Ranked}
use Rattle.net_rings.proofs.minima.ring_minima.Given as goal

abbrev pub invariant-loop-place : goal.invariant-loop-place
invariant-loop-place l = record {
  rows : AreRows l.core.rows;
  counted : AreCounted l.core.rows.sources.items l.core.rows.bits.items l.core.uses.items;
  marks : AreBelow (l.place + 1) l.marks.items;
  taken : l.taken ≤ length l.order;
  low : AreRanked l.order → (i : ℕ) → (a : Ranked) → i < l.taken → slice_get l.order i ≡ Some a → (j : ℕ) → (b : Ranked) → l.place ≤ j → slice_get l.order j ≡ Some b → a.rank < b.rank;
  kept : (sources : List (List ℕ)) → IsCore sources [] l.fn.core → IsCore sources (bits_to l.order l.taken) l.core;
  only : (sources : List (List ℕ)) → IsCore sources [] l.fn.core → AreRanked l.order → AreAllRanked sources l.order → (n : ℕ) → IsIn n l.found.items → IsLeastOfRing sources l.order n;
  each : (sources : List (List ℕ)) → IsCore sources [] l.fn.core → AreRanked l.order → AreAllRanked sources l.order
      → (i : ℕ) → (a : Ranked) → i < l.place → slice_get l.order i ≡ Some a → IsLeastOfRing sources l.order a.bit → IsIn a.bit l.found.items;
}
