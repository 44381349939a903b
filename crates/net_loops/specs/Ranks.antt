-- Bits ranked by their joined names.
use Rattle.std.specs.Prelude.{◌≡◌, ◌≢◌, ◌+◌, ◌≤◌, ◌<◌, ◌↔◌, ℕ, List, Some, length, map, slice_get}
use Rattle.std.specs.Ordering.{on}
use Rattle.std.specs.declared.cmp.Ordering.{Ordering}
use Rattle.std.specs.declared.cmp.Ordering.TheVariants.{Less}
use Rattle.list_defs.specs.Members.{IsIn}
use Rattle.list_defs.specs.Orders.{AreAllRising, name_cmp}
use Rattle.design_defs.specs.Bits.{HasSpotName, IsSpot, Spot, spot_cmp}
use Rattle.design_defs.specs.Hierarchy.{Sources}
use Rattle.net_bits.specs.Placed.{ArePlaced}
use Rattle.net_bits.specs.declared.placed.Placed.{Placed}
use Rattle.net_loops.specs.declared.ranks.Spelled.{Spelled}
use Rattle.net_rings.specs.declared.minima.Ranked.{Ranked}
use Rattle.net_rings.specs.Least.{HasRank}

-- bits go by their names
abbrev pub spelled_cmp : Spelled → Spelled → Ordering
spelled_cmp = on (λ (a : Spelled). a.name) name_cmp

-- each bit, in this order, with its joined name
pub record AreSpelled (p : Placed) (bits : List ℕ) (all : List Spelled) : Type 0 where
  pub same : map (λ (a : Spelled). a.bit) all ≡ bits
  pub named : (s : Sources) → ArePlaced s p → (spots : List Spot) → AreAllRising spot_cmp (IsSpot s) spots → (a : Spelled) → IsIn a all → (x : Spot)
      → slice_get spots a.bit ≡ Some x → (name : List ℕ) → HasSpotName s x name → a.name ≡ name

-- the rank behind one: the same for the same name, and else the next
pub record IsNextRank (name next : List ℕ) (rank more : ℕ) : Type 0 where
  pub same : name ≡ next → more ≡ rank
  pub other : name ≢ next → more ≡ rank + 1

-- the first of some bits have ranks
pub record AreRankedFirst (all : List Spelled) (order : List Ranked) (count rank : ℕ) : Type 0 where
  pub count_is : length order ≡ count
  pub bits : (i : ℕ) (a : Spelled) (r : Ranked) → slice_get all i ≡ Some a → slice_get order i ≡ Some r → r.bit ≡ a.bit
  pub last : (i : ℕ) (r : Ranked) → i + 1 ≡ count → slice_get order i ≡ Some r → r.rank ≡ rank
  pub step : (i : ℕ) (a b : Spelled) (r q : Ranked) → slice_get all i ≡ Some a → slice_get all (i + 1) ≡ Some b → slice_get order i ≡ Some r → slice_get order (i + 1) ≡ Some q
      → IsNextRank a.name b.name r.rank q.rank

-- items by the names that they are spelled with: less exactly where the name comes before, place by place
pub record AreRankedSo (spelled : List Spelled) (order : List Ranked) : Type 0 where
  pub count : length order ≡ length spelled
  pub bits : (i : ℕ) (a : Spelled) (r : Ranked) → slice_get spelled i ≡ Some a → slice_get order i ≡ Some r → r.bit ≡ a.bit
  pub less : (i j : ℕ) (a b : Spelled) (r q : Ranked) → slice_get spelled i ≡ Some a → slice_get spelled j ≡ Some b → slice_get order i ≡ Some r → slice_get order j ≡ Some q
      → (r.rank < q.rank) ↔ (name_cmp a.name b.name ≡ Less)
  pub rise : (i j : ℕ) (r q : Ranked) → i ≤ j → slice_get order i ≡ Some r → slice_get order j ≡ Some q → r.rank ≤ q.rank

-- the bits of a list, and no others, have ranks, and one rank is below another exactly where the name comes before
pub record AreNameRanks (s : Sources) (spots : List Spot) (bits : List ℕ) (order : List Ranked) : Type 0 where
  pub ranked : (bit : ℕ) → IsIn bit bits → (rank : ℕ) × HasRank order bit rank
  pub only : (bit rank : ℕ) → HasRank order bit rank → IsIn bit bits
  pub less : (n m r q : ℕ) (x y : Spot) (a b : List ℕ) → HasRank order n r → HasRank order m q → slice_get spots n ≡ Some x → slice_get spots m ≡ Some y → HasSpotName s x a
      → HasSpotName s y b → (r < q) ↔ (name_cmp a b ≡ Less)
  pub rise : (i j : ℕ) (a b : Ranked) → i ≤ j → slice_get order i ≡ Some a → slice_get order j ≡ Some b → a.rank ≤ b.rank
