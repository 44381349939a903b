use Rattle.std.proofs.Common.{◌≡◌, ◌<◌, ◌≤◌, ℕ, List, Some}
use Rattle.std.specs.List.{slice_get}
use Rattle.net_rings.specs.Fed.{AreRows}
use Rattle.net_rings.specs.Least.{bits_to}
use Rattle.net_rings.specs.Peeled.{AreCounted, IsCore}
use Rattle.net_rings.specs.declared.minima.Ranked.{Ranked}
use Rattle.net_rings.proofs.minima.take_below.Given as goal

abbrev pub invariant-loop-place : goal.invariant-loop-place
invariant-loop-place l = record {
  rows : AreRows l.core.rows;
  counted : AreCounted l.core.rows.sources.items l.core.rows.bits.items l.core.uses.items;
  from : l.from ≤ l.place;
  low : (i : ℕ) → (a : Ranked) → l.from ≤ i → i < l.place → slice_get l.order i ≡ Some a → a.rank < l.rank;
  kept : (sources : List (List ℕ)) → IsCore sources (bits_to l.order l.from) l.fn.core → IsCore sources (bits_to l.order l.place) l.core;
}
