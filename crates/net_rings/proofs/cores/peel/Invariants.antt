use Rattle.std.proofs.Common.{ℕ, List}
use Rattle.net_rings.specs.Fed.{AreRows}
use Rattle.net_rings.specs.Peeled.{AreCounted, IsCore}
use Rattle.net_rings.proofs.cores.peel.Given as goal

abbrev pub invariant-loop : goal.invariant-loop
invariant-loop l = record {
  rows : AreRows l.core.rows;
  counted : AreCounted l.core.rows.sources.items l.core.rows.bits.items l.core.uses.items;
  kept : (sources : List (List ℕ)) → (taken : List ℕ) → IsCore sources taken l.fn.core → IsCore sources taken l.core;
}
